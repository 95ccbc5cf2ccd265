-- What is left of a list, part of which was moved into the front of a buffer.
use Rattle.std.proofs.Common.{◌≡◌, ℕ, zero, suc, ◌+◌, ◌-◌, ◌<◌, ◌≤◌, List, [], ◌∷◌, ◌++◌, length, take, drop, min, sym, ap, ◌∙◌, arith}
use Rattle.std.proofs.lemmas.List.{append_assoc, take-append-drop, take-append-le, take_at, length-take-le}
use Rattle.std.proofs.Math.Seq.{take-append-add}
use borrow.Rule.Slice.PartMut.{put_mid, post_of}
use Rattle.rmat_source.specs.Rmat.{edge_line, lines_from}

-- the first bytes of a list, and any behind them
first_of_both : (n : ℕ) (xs ys : List ℕ) → n ≤ length xs → take n (take n xs ++ ys) ≡ take n xs
first_of_both n xs ys fits = take_at (take n xs) ys n (length-take-le n xs fits)

-- of a line, and of what comes behind it
pub given_front : (n : ℕ) (line line' into into' more : List ℕ) → n ≡ min (length into) (length line) → into' ≡ take n line ++ drop n into → line' ≡ drop n line → take n into' ++ (line' ++ more) ≡ line ++ more
given_front n line line' into into' more count front rest =
    ap (λ xs. take n xs ++ (line' ++ more)) front ∙ ap (λ xs. xs ++ (line' ++ more)) (first_of_both n line (drop n into) (omega arith))
    ∙ ap (λ xs. take n line ++ (xs ++ more)) rest ∙ sym (append_assoc (take n line) (drop n line) more) ∙ ap (λ xs. xs ++ more) (take-append-drop n line)

-- more of it behind what was moved so far
pub more_given : (a k n : ℕ) (xs ys left left' all : List ℕ) → a ≤ length xs → n ≤ length ys → take a xs ++ left ≡ all → take n ys ++ left' ≡ left → take (a + n) (put_mid a k xs ys) ++ left' ≡ all
more_given a k n xs ys left left' all within fits before now =
    let len : length (take a xs) ≡ a = length-take-le a xs within in
    let cut : take (a + n) (take a xs ++ (ys ++ post_of a k xs)) ≡ take a xs ++ take n ys =
    ap (λ m. take (m + n) (take a xs ++ (ys ++ post_of a k xs))) (sym len) ∙ take-append-add (take a xs) (ys ++ post_of a k xs) n
    ∙ ap (λ zs. take a xs ++ zs) (take-append-le n ys (post_of a k xs) fits) in
    ap (λ zs. zs ++ left') cut ∙ append_assoc (take a xs) (take n ys) left' ∙ ap (λ zs. take a xs ++ zs) now ∙ before

-- the first of the lines that are left
drawn : (word : ℕ → ℕ) (scale place count : ℕ) → 0 < count → lines_from word scale place count ≡ edge_line word scale place ++ lines_from word scale (place + (scale + 1)) (count - 1)
drawn word scale place zero some = absurd (omega arith)
drawn word scale place (suc count) some = let e : suc count - 1 ≡ count = omega arith in rw e

-- it stands in place of the line that was given away
pub begun : (word : ℕ → ℕ) (scale place count : ℕ) (line line' all : List ℕ) → length line ≡ 0 → 0 < count → all ≡ line ++ lines_from word scale place count → line' ≡ edge_line word scale place → line' ++ lines_from word scale (place + (scale + 1)) (count - 1) ≡ all
begun word scale place count [] line' all empty some whole is = ap (λ xs. xs ++ lines_from word scale (place + (scale + 1)) (count - 1)) is ∙ sym (drawn word scale place count some) ∙ sym whole
begun word scale place count (x ∷ xs) line' all empty some whole is = absurd (omega arith)
