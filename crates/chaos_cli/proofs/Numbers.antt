-- One file more, and one row of files more.
use Rattle.std.proofs.Common.{◌≡◌, ◌∙◌, ℕ, zero, suc, ◌+◌, ◌*◌, List, [], ◌∷◌, ◌++◌, length, get_or, ap, sym, subst, arith, length-append}
use Rattle.std.specs.Prelude.{Vec}
use Rattle.std.specs.Global.{Global}
use Rattle.std.specs.List.{range_with_len}
use Rattle.std.proofs.lemmas.List.{map-append}
use Rattle.graph_model.proofs.ListLemmas.{range_with_len-append}
use Rattle.real_devices.specs.FileState.{FileState}
use Rattle.chaos_cli.specs.Files.{AreNumbered, AreNumberedRows}

pub numbered_more : (first : ℕ) (files : List FileState) (file : FileState) → AreNumbered first files → file.number ≡ first + length files → AreNumbered first (files ++ file ∷ [])
numbered_more first files file are is =
    map-append (λ (f : FileState). f.number) files (file ∷ [])
    ∙ ap (λ numbers. numbers ++ file.number ∷ []) are
    ∙ ap (λ n. range_with_len first (length files) ++ n ∷ []) is
    ∙ range_with_len-append first (length files) 1
    ∙ ap (range_with_len first) (sym (length-append files (file ∷ [])))

pub numbered_rows_more : (first : ℕ) (rows : List (Vec FileState Global)) (row : Vec FileState Global) → AreNumberedRows first rows → AreNumbered (first + 8 * length rows) row.items → AreNumberedRows first (rows ++ row ∷ [])
numbered_rows_more first [] row are is zero d below = is
numbered_rows_more first [] row are is (suc w) d below = absurd (omega (arith, below))
numbered_rows_more first (x ∷ rows) row are is zero d below = are zero d (omega arith)
numbered_rows_more first (x ∷ rows) row are is (suc w) d below =
    let rest : AreNumberedRows (first + 8) rows = λ v e less. subst (λ (n : ℕ). AreNumbered n (get_or rows v e).items) (omega arith) (are (suc v) e (omega (arith, less))) in
    let last : AreNumbered (first + 8 + 8 * length rows) row.items = subst (λ (n : ℕ). AreNumbered n row.items) (omega arith) is in
    subst (λ (n : ℕ). AreNumbered n (get_or (rows ++ row ∷ []) w d).items) (omega arith) (numbered_rows_more (first + 8) rows row rest last w d (omega (arith, below)))
