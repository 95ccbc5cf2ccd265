-- What is written of bytes that go through a buffer.
use Rattle.std.proofs.Common.{◌≡◌, ℕ, ◌+◌, List, [], ◌++◌, length, take, Option, sym, ◌∙◌, ap, subst, arith, append_assoc, length-append}
use Rattle.std.proofs.lemmas.List.{take-append-le, take_all, append-nil}
use Rattle.std.proofs.Math.Seq.{take-append-add}
use Rattle.ports.specs.Sink.{Appends, AppendsFront}
use Rattle.ports.specs.Told.{AsTold}
use Rattle.ports.proofs.Told.{as_told_same, as_told_then, as_told_weaker}
use Rattle.ports.proofs.Streams.{appends_then}
use Rattle.answer_lines.specs.Lines.{Passes}

-- a front of bytes is a front of more bytes
pub front_more : (bytes more : List ℕ) (x y : Option (List ℕ)) → AsTold (AppendsFront bytes) x y → AsTold (AppendsFront (bytes ++ more)) x y
front_more bytes more x y told =
    as_told_weaker (AppendsFront bytes) (AppendsFront (bytes ++ more))
    (λ a b front. (front.0, omega (arith, length-append bytes more), front.2 ∙ ap (λ s. a ++ s) (sym (take-append-le front.0 bytes more front.1)))) x y told

-- nothing came
pub passes_none : (waits : List ℕ) (x : Option (List ℕ)) → Passes [] waits waits x x
passes_none waits x = record { written = []; parts = append-nil waits; told = as_told_same (Appends []) (λ a. sym (append-nil a)) x }

-- more bytes came
pub passes_then : (bytes more waits waits' waits'' : List ℕ) (x y z : Option (List ℕ)) → Passes bytes waits waits' x y → Passes more waits' waits'' y z → Passes (bytes ++ more) waits waits'' x z
passes_then bytes more waits waits' waits'' x y z first next = record {
  written = first.written ++ next.written;
  parts = sym (append_assoc waits bytes more)
      ∙ ap (λ s. s ++ more) first.parts
      ∙ append_assoc first.written waits' more
      ∙ ap (λ s. first.written ++ s) next.parts
      ∙ sym (append_assoc first.written next.written waits'');
  told = appends_then first.written next.written x y z first.told next.told;
}

-- more bytes came, and of these and what waited a front was written
pub front_then : (bytes more waits waits' : List ℕ) (x y z : Option (List ℕ)) → Passes bytes waits waits' x y → AsTold (AppendsFront (waits' ++ more)) y z → AsTold (AppendsFront (waits ++ (bytes ++ more))) x z
front_then bytes more waits waits' x y z first next =
    let all : waits ++ (bytes ++ more) ≡ first.written ++ (waits' ++ more) =
    sym (append_assoc waits bytes more) ∙ ap (λ s. s ++ more) first.parts ∙ append_assoc first.written waits' more in
    as_told_then (Appends first.written) (AppendsFront (waits' ++ more)) (AppendsFront (waits ++ (bytes ++ more)))
    (λ a b c whole front. (
      length first.written + front.0,
      omega (arith, ap length all, length-append first.written (waits' ++ more), front.1),
      front.2
          ∙ ap (λ s. s ++ take front.0 (waits' ++ more)) whole
          ∙ append_assoc a first.written (take front.0 (waits' ++ more))
          ∙ ap (λ s. a ++ s) (sym (take-append-add first.written (waits' ++ more) front.0))
          ∙ ap (λ s. a ++ take (length first.written + front.0) s) (sym all),
    )) x y z first.told next

-- no more bytes came, and of what waited a front was written
pub front_of_waits : (bytes waits waits' : List ℕ) (x y z : Option (List ℕ)) → Passes bytes waits waits' x y → AsTold (AppendsFront waits') y z → AsTold (AppendsFront (waits ++ bytes)) x z
front_of_waits bytes waits waits' x y z first next =
    subst (λ (s : List ℕ). AsTold (AppendsFront (waits ++ s)) x z) (append-nil bytes)
    (front_then bytes [] waits waits' x y z first (subst (λ (s : List ℕ). AsTold (AppendsFront s) y z) (sym (append-nil waits')) next))

-- all that waited was written
pub written_whole : (bytes waits : List ℕ) (x y z : Option (List ℕ)) → Passes bytes [] waits x y → AsTold (Appends waits) y z → AsTold (Appends bytes) x z
written_whole bytes waits x y z first next =
    subst (λ (s : List ℕ). AsTold (Appends s) x z) (sym first.parts) (appends_then first.written waits x y z first.told next)

-- what was written as a whole is a front
pub front_of_whole : (bytes : List ℕ) (x y : Option (List ℕ)) → AsTold (Appends bytes) x y → AsTold (AppendsFront bytes) x y
front_of_whole bytes x y told =
    as_told_weaker (Appends bytes) (AppendsFront bytes)
    (λ a b whole. (length bytes, omega arith, whole ∙ ap (λ s. a ++ s) (sym (take_all (length bytes) bytes (omega arith))))) x y told

pub front_none : (bytes : List ℕ) (x : Option (List ℕ)) → AsTold (AppendsFront bytes) x x
front_none bytes x = as_told_same (AppendsFront bytes) (λ a. (0, omega arith, sym (append-nil a))) x
