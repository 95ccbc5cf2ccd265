-- What was printed after a partition more, and at the end.
use Rattle.std.proofs.Common.{◌≡◌, ℕ, zero, suc, ◌+◌, ◌<◌, ◌≤◌, Bool, Option, List, [], ◌∷◌, ◌++◌, length, take, drop, refl, sym, ◌∙◌, ap, subst, arith, append_assoc, zero-add, length-append}
use Rattle.std.proofs.lemmas.List.{take_all}
use Rattle.std.specs.List.{range_with_len}
use Rattle.std.proofs.Math.Seq.{take-add, drop-cons}
use Rattle.graph_model.specs.declared.value.Value.{Value}
use Rattle.graph_model.specs.Partitions.{first_vertex}
use Rattle.graph_model.specs.Rounds.{value_at}
use Rattle.graph_model.specs.Answer.{line, text_of_values}
use Rattle.ports.specs.Disk.{DiskState}
use Rattle.ports.specs.Sink.{Appends, AppendsFront}
use Rattle.ports.specs.Told.{AsTold}
use Rattle.partitioner.specs.declared.split.Split.{Split}
use Rattle.partitioner.proofs.Ranges.{first_vertex-next, first_vertex-end}
use Rattle.store_model.specs.Kept.{values_of}
use Rattle.store_reader.specs.Reading.{len_in}
use Rattle.store_reader.specs.Values.{HoldValues, IsSet}
use Rattle.answer_lines.specs.Lines.{lines_from, Passes}
use Rattle.answer_lines.specs.Printing.{PrintsAll, PrintsFront, PrintsFirst}
use Rattle.answer_lines.proofs.Written.{front_more, passes_none, passes_then, front_then, front_of_waits, front_none, front_of_whole, written_whole}
use Rattle.answer_lines.proofs.LineLemmas.{lines_from-append, lines_from-more, lines_from-parts}

-- the values of consecutive vertices
consecutive : (all : List Value) (first count : ℕ) → first + count ≤ length all → values_of (range_with_len first count) all ≡ take count (drop first all)
consecutive all first zero within = refl
consecutive all first (suc count) within =
    let next : first + 1 ≡ suc first = omega arith in
    ap (λ vs. value_at all first ∷ vs) (consecutive all (first + 1) count (omega arith) ∙ ap (λ n. take count (drop n all)) next)
    ∙ ap (take (suc count)) (sym (drop-cons all first _ (omega arith)))

-- one line more
pub line_passes : (with_side : Bool) (first : ℕ) (values : List Value) (k : ℕ) (piece waits waits' waits'' : List ℕ) (x y z : Option (List ℕ)) → k < length values → piece ≡ line with_side (first + k) (value_at values k)
    → Passes (lines_from with_side first (take k values)) waits waits' x y → Passes piece waits' waits'' y z → Passes (lines_from with_side first (take (k + 1) values)) waits waits'' x z
line_passes with_side first values k piece waits waits' waits'' x y z below is so_far more =
    subst (λ (bytes : List ℕ). Passes bytes waits waits'' x z)
    (ap (λ s. lines_from with_side first (take k values) ++ s) is ∙ sym (lines_from-more with_side first values k below))
    (passes_then (lines_from with_side first (take k values)) piece waits waits' waits'' x y z so_far more)

-- after some lines, a front of what waited
pub lines_front : (with_side : Bool) (first : ℕ) (values : List Value) (k : ℕ) (waits waits' : List ℕ) (x y z : Option (List ℕ))
    → Passes (lines_from with_side first (take k values)) waits waits' x y → AsTold (AppendsFront waits') y z → AsTold (AppendsFront (waits ++ lines_from with_side first values)) x z
lines_front with_side first values k waits waits' x y z so_far front =
    let rest : List ℕ = lines_from with_side (first + length (take k values)) (drop k values) in
    let all : (waits ++ lines_from with_side first (take k values)) ++ rest ≡ waits ++ lines_from with_side first values =
    append_assoc waits (lines_from with_side first (take k values)) rest ∙ ap (λ s. waits ++ s) (sym (lines_from-parts with_side first values k)) in
    subst (λ (bytes : List ℕ). AsTold (AppendsFront bytes) x z) all
    (front_more (waits ++ lines_from with_side first (take k values)) rest x z (front_of_waits (lines_from with_side first (take k values)) waits waits' x y z so_far front))

module _ {X : Type 0} (state : X → DiskState) (split : Split) (devices : List X) (slot : ℕ) (with_side : Bool) where
  -- before any partition
  pub begun : (first : ℕ) (x : Option (List ℕ)) → first ≡ 0 → PrintsFirst state split devices slot with_side first [] x x
  begun first x none = record {
    values = [];
    long = sym none;
    are = λ all holds. ap (λ n. take n all) (sym none);
    passes = passes_none [] x;
  }

  module _ (p : ℕ) (waits : List ℕ) (start mid : Option (List ℕ)) (so_far : PrintsFirst state split devices slot with_side (first_vertex split.vertices split.parts p) waits start mid) where
    -- the values so far and those of the partition
    both_long : (set : List Value) → length set ≡ len_in split p → length (so_far.values ++ set) ≡ first_vertex split.vertices split.parts (p + 1)
    both_long set long =
        let next = first_vertex-next split.vertices split.parts p (p + 1) refl in
        omega (arith, length-append so_far.values set, so_far.long, long, next)

    both_are : (set : List Value) → length set ≡ len_in split p → IsSet state split devices slot p set → (all : List Value) → HoldValues state split devices slot all → so_far.values ++ set ≡ take (first_vertex split.vertices split.parts (p + 1)) all
    both_are set long are all holds =
        let first : ℕ = first_vertex split.vertices split.parts p in
        let next : first + len_in split p ≡ first_vertex split.vertices split.parts (p + 1) = first_vertex-next split.vertices split.parts p (p + 1) refl in
        ap (λ vs. vs ++ set) (so_far.are all holds)
        ∙ ap (λ vs. take first all ++ vs) (are all holds ∙ consecutive all first (len_in split p) (omega (arith, holds.long, next)))
        ∙ sym (take-add first (len_in split p) all)
        ∙ ap (λ n. take n all) next

    both_text : (set : List Value) → text_of_values with_side so_far.values ++ lines_from with_side (first_vertex split.vertices split.parts p) set ≡ text_of_values with_side (so_far.values ++ set)
    both_text set =
        ap (λ n. text_of_values with_side so_far.values ++ lines_from with_side n set) (sym so_far.long ∙ sym (zero-add (length so_far.values)))
        ∙ sym (lines_from-append with_side 0 so_far.values set)

    -- **a partition more**
    pub partition_printed : (set : List Value) (waits' : List ℕ) (now : Option (List ℕ)) → length set ≡ len_in split p → IsSet state split devices slot p set
        → Passes (lines_from with_side (first_vertex split.vertices split.parts p) set) waits waits' mid now → PrintsFirst state split devices slot with_side (first_vertex split.vertices split.parts (p + 1)) waits' start now
    partition_printed set waits' now long are more = record {
      values = so_far.values ++ set;
      long = both_long set long;
      are = both_are set long are;
      passes = subst (λ (bytes : List ℕ). Passes bytes [] waits' start now) (both_text set)
          (passes_then (text_of_values with_side so_far.values) (lines_from with_side (first_vertex split.vertices split.parts p) set) [] waits waits' start mid now so_far.passes more);
    }

    -- a front of its lines
    pub partition_front : (set : List Value) (now : Option (List ℕ)) → length set ≡ len_in split p → IsSet state split devices slot p set
        → AsTold (AppendsFront (waits ++ lines_from with_side (first_vertex split.vertices split.parts p) set)) mid now → PrintsFront state split devices slot with_side start now
    partition_front set now long are front = record {
      values = so_far.values ++ set;
      within = let whole = both_long set long in omega arith;
      are = λ all holds. both_are set long are all holds ∙ ap (λ n. take n all) (sym (both_long set long));
      printed = subst (λ (bytes : List ℕ). AsTold (AppendsFront bytes) start now) (both_text set)
          (front_then (text_of_values with_side so_far.values) (lines_from with_side (first_vertex split.vertices split.parts p) set) [] waits start mid now so_far.passes front);
    }

    -- a front of what waited
    pub waits_front : (now : Option (List ℕ)) → AsTold (AppendsFront waits) mid now → PrintsFront state split devices slot with_side start now
    waits_front now front = record {
      values = so_far.values;
      within = omega (arith, so_far.long);
      are = λ all holds. so_far.are all holds ∙ ap (λ n. take n all) (sym so_far.long);
      printed = front_of_waits (text_of_values with_side so_far.values) [] waits start mid now so_far.passes front;
    }

    -- nothing of it
    pub unprinted : PrintsFront state split devices slot with_side start mid
    unprinted = waits_front mid (front_none waits mid)

    -- **all that waited, after the last partition**
    pub all_printed : (now : Option (List ℕ)) → 1 ≤ split.parts → p ≡ split.parts → AsTold (Appends waits) mid now → PrintsAll state split devices slot with_side start now
    all_printed now some_part last whole =
        let end : first_vertex split.vertices split.parts p ≡ split.vertices = ap (first_vertex split.vertices split.parts) last ∙ first_vertex-end split.vertices split.parts some_part in record {
          values = so_far.values;
          long = so_far.long ∙ end;
          are = λ all holds. so_far.are all holds ∙ take_all (first_vertex split.vertices split.parts p) all (omega (arith, holds.long, end));
          printed = written_whole (text_of_values with_side so_far.values) waits start mid now so_far.passes whole;
        }

  -- what was printed as a whole is a front
  pub all_front : (old new : Option (List ℕ)) → PrintsAll state split devices slot with_side old new → PrintsFront state split devices slot with_side old new
  all_front old new prints = record {
    values = prints.values;
    within = omega (arith, prints.long);
    are = λ all holds. prints.are all holds ∙ sym (take_all (length prints.values) all (omega (arith, prints.long, holds.long)));
    printed = front_of_whole (text_of_values with_side prints.values) old new prints.printed;
  }
