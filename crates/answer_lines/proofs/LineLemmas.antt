-- The lines of consecutive vertices, piece by piece.
use Rattle.std.proofs.Common.{◌≡◌, ℕ, suc, ◌+◌, ◌<◌, List, [], ◌∷◌, ◌++◌, length, take, drop, Bool, sym, ◌∙◌, ap, arith, append-nil, append_assoc, length-take-le}
use Rattle.std.proofs.lemmas.List.{take_more, take-append-drop}
use Rattle.graph_model.specs.declared.value.Value.{Value}
use Rattle.graph_model.specs.Rounds.{value_at}
use Rattle.graph_model.specs.Answer.{line}
use Rattle.answer_lines.specs.Lines.{lines_from}

pub lines_from-append : (with_side : Bool) (n : ℕ) (xs ys : List Value) → lines_from with_side n (xs ++ ys) ≡ lines_from with_side n xs ++ lines_from with_side (n + length xs) ys
lines_from-append with_side n [] ys = let here : n ≡ n + 0 = omega arith in ap (λ v. lines_from with_side v ys) here
lines_from-append with_side n (x ∷ xs) ys =
    let here : n + 1 + length xs ≡ n + suc (length xs) = omega arith in
    ap (λ rest. line with_side n x ++ rest) (lines_from-append with_side (n + 1) xs ys ∙ ap (λ v. lines_from with_side (n + 1) xs ++ lines_from with_side v ys) here)
    ∙ sym (append_assoc (line with_side n x) (lines_from with_side (n + 1) xs) (lines_from with_side (n + suc (length xs)) ys))

-- one line more
pub lines_from-more : (with_side : Bool) (n : ℕ) (values : List Value) (k : ℕ) → k < length values → lines_from with_side n (take (k + 1) values) ≡ lines_from with_side n (take k values) ++ line with_side (n + k) (value_at values k)
lines_from-more with_side n values k below =
    let long : length (take k values) ≡ k = length-take-le k values (omega arith) in
    ap (lines_from with_side n) (take_more values k _ below)
    ∙ lines_from-append with_side n (take k values) (value_at values k ∷ [])
    ∙ ap (λ s. lines_from with_side n (take k values) ++ s) (append-nil (line with_side (n + length (take k values)) (value_at values k)))
    ∙ ap (λ j. lines_from with_side n (take k values) ++ line with_side (n + j) (value_at values k)) long

-- the first lines, and the others
pub lines_from-parts : (with_side : Bool) (n : ℕ) (values : List Value) (k : ℕ) → lines_from with_side n values ≡ lines_from with_side n (take k values) ++ lines_from with_side (n + length (take k values)) (drop k values)
lines_from-parts with_side n values k =
    ap (lines_from with_side n) (sym (take-append-drop k values)) ∙ lines_from-append with_side n (take k values) (drop k values)
