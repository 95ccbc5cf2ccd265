-- What several reads or writes in a row come to.
use Rattle.std.proofs.Common.{◌≡◌, ℕ, ◌+◌, List, ◌++◌, Option, take, drop, sym, ◌∙◌, ap}
use Rattle.std.proofs.lemmas.List.{take-append-drop, append_assoc}
use Rattle.std.proofs.Math.Seq.{take-add}
use Rattle.ports.specs.Told.{AsTold}
use Rattle.ports.specs.Source.{Moved, Gives}
use Rattle.ports.specs.Sink.{Appends}
use Rattle.ports.proofs.Told.{as_told_then}

-- what was read and what is left make up what was left
pub moved-append : (count : ℕ) (into old new : List ℕ) → Moved count into old new → take count into ++ new ≡ old
moved-append count into old new moved = rw (moved.front, moved.rest) (take-append-drop count old)

-- a further read
pub gives_more : (bytes : List ℕ) (count : ℕ) (into : List ℕ) (x y z : Option (List ℕ)) → AsTold (Gives bytes) x y → AsTold (Moved count into) y z → AsTold (Gives (bytes ++ take count into)) x z
gives_more bytes count into x y z first more =
    as_told_then (Gives bytes) (Moved count into) (Gives (bytes ++ take count into))
    (λ a b c p q. p ∙ ap (λ s. bytes ++ s) (sym (moved-append count into b c q)) ∙ sym (append_assoc bytes (take count into) c))
    x y z first more

-- a further part of a piece is written
pub appends_more : (piece : List ℕ) (done count : ℕ) (x y z : Option (List ℕ)) → AsTold (Appends (take done piece)) x y → AsTold (Appends (take count (drop done piece))) y z → AsTold (Appends (take (done + count) piece)) x z
appends_more piece done count x y z first more =
    as_told_then (Appends (take done piece)) (Appends (take count (drop done piece))) (Appends (take (done + count) piece))
    (λ a b c p q. q ∙ ap (λ s. s ++ take count (drop done piece)) p ∙ append_assoc a (take done piece) (take count (drop done piece)) ∙ ap (λ s. a ++ s) (sym (take-add done count piece)))
    x y z first more

-- a further piece is written
pub appends_then : (first more : List ℕ) (x y z : Option (List ℕ)) → AsTold (Appends first) x y → AsTold (Appends more) y z → AsTold (Appends (first ++ more)) x z
appends_then first more x y z p q =
    as_told_then (Appends first) (Appends more) (Appends (first ++ more))
    (λ a b c e f. f ∙ ap (λ s. s ++ more) e ∙ append_assoc a first more) x y z p q
