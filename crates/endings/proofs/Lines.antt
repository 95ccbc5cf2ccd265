-- The lines of engines, and of one engine more.
use Rattle.std.proofs.Common.{◌≡◌, ◌∙◌, ℕ, ◌+◌, ◌<◌, List, [], ◌∷◌, ◌++◌, length, get_or, sym, ap, arith, append_assoc, append-nil}
use Rattle.std.specs.Prelude.{take, codes}
use Rattle.std.proofs.lemmas.List.{length-take-le, take_more}
use Rattle.endings.specs.Endings.{engine_lines, with_number, with_numbers}

-- the line of one engine
abbrev line_of : (engine count : ℕ) → List ℕ
line_of engine count = with_numbers (codes "engine ") engine (codes " chunks ") count (codes "\n")

lines_push : (engine : ℕ) (chunks : List ℕ) (count : ℕ) → engine_lines engine (chunks ++ count ∷ []) ≡ engine_lines engine chunks ++ line_of (engine + length chunks) count
lines_push engine [] count = append-nil (line_of engine count) ∙ ap (λ e. line_of e count) (omega arith)
lines_push engine (first ∷ chunks) count =
    ap (λ rest. line_of engine first ++ rest) (lines_push (engine + 1) chunks count)
    ∙ ap (λ e. line_of engine first ++ (engine_lines (engine + 1) chunks ++ line_of e count)) (omega arith)
    ∙ sym (append_assoc (line_of engine first) (engine_lines (engine + 1) chunks) (line_of (engine + length (first ∷ chunks)) count))

lines_more : (chunks : List ℕ) (engine : ℕ) → engine < length chunks → engine_lines 0 (take (engine + 1) chunks) ≡ engine_lines 0 (take engine chunks) ++ line_of engine (get_or chunks engine 0)
lines_more chunks engine below =
    ap (engine_lines 0) (take_more chunks engine 0 below)
    ∙ lines_push 0 (take engine chunks) (get_or chunks engine 0)
    ∙ ap (λ e. engine_lines 0 (take engine chunks) ++ line_of e (get_or chunks engine 0)) (let all : 0 + length (take engine chunks) ≡ engine = omega (arith, length-take-le engine chunks (omega arith)) in all)

-- **One engine more was appended.**
pub one_more : (before line first then chunks : List ℕ) (engine : ℕ) → engine < length chunks → line ≡ before ++ engine_lines 0 (take engine chunks)
    → first ≡ line ++ with_number (codes "engine ") engine [] → then ≡ first ++ with_number (codes " chunks ") (get_or chunks engine 0) (codes "\n")
    → then ≡ before ++ engine_lines 0 (take (engine + 1) chunks)
one_more before line first then chunks engine below so_far one two =
    let number : List ℕ = with_number (codes "engine ") engine [] in
    let count : List ℕ = with_number (codes " chunks ") (get_or chunks engine 0) (codes "\n") in
    let earlier : List ℕ = engine_lines 0 (take engine chunks) in
    two ∙ ap (λ s. s ++ count) (one ∙ ap (λ s. s ++ number) so_far)
    ∙ append_assoc (before ++ earlier) number count
    ∙ append_assoc before earlier (number ++ count)
    ∙ ap (λ s. before ++ s) (sym (lines_more chunks engine below))
