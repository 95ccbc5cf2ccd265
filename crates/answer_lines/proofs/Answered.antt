-- What was printed is the answer, where the values of the last round stand in the slot.
use Rattle.std.proofs.Common.{ℕ, ◌+◌, Bool, Option, List, length, take, drop, sym, subst}
use Rattle.graph_model.specs.declared.value.Value.{Value}
use Rattle.graph_model.specs.Answer.{text_of_values}
use Rattle.ports.specs.Disk.{DiskState}
use Rattle.ports.specs.Sink.{Appends, AppendsFront}
use Rattle.ports.specs.Told.{AsTold}
use Rattle.partitioner.specs.declared.split.Split.{Split}
use Rattle.answer_lines.specs.Lines.{lines_from}
use Rattle.store_reader.specs.Values.{HoldValues}
use Rattle.answer_lines.specs.Printing.{PrintsAll, PrintsFront}
use Rattle.answer_lines.proofs.Written.{front_more}
use Rattle.answer_lines.proofs.LineLemmas.{lines_from-parts}

module _ {X : Type 0} (state : X → DiskState) (split : Split) (devices : List X) (slot : ℕ) (with_side : Bool) (all : List Value) (holds : HoldValues state split devices slot all) (old new : Option (List ℕ)) where
  -- **all lines of these values were printed**
  pub prints_these : PrintsAll state split devices slot with_side old new → AsTold (Appends (text_of_values with_side all)) old new
  prints_these prints = subst (λ (vs : List Value). AsTold (Appends (text_of_values with_side vs)) old new) (prints.are all holds) prints.printed

  -- **a front of them was printed**
  pub prints_front_of_these : PrintsFront state split devices slot with_side old new → AsTold (AppendsFront (text_of_values with_side all)) old new
  prints_front_of_these prints =
      let count : ℕ = length prints.values in
      let front : AsTold (AppendsFront (text_of_values with_side (take count all))) old new =
      subst (λ (vs : List Value). AsTold (AppendsFront (text_of_values with_side vs)) old new) (prints.are all holds) prints.printed in
      subst (λ (bytes : List ℕ). AsTold (AppendsFront bytes) old new) (sym (lines_from-parts with_side 0 all count))
      (front_more (text_of_values with_side (take count all)) (lines_from with_side (0 + length (take count all)) (drop count all)) old new front)
