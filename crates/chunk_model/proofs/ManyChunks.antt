-- Chunks one behind another: their places, and that their bytes tell them.
use Rattle.std.proofs.Common.{◌≡◌, ◌≢◌, ℕ, ◌+◌, ◌==◌, Bool, cond, List, [], ◌∷◌, ◌++◌, length, map, refl, sym, ◌∙◌, ap, arith, append-nil, length-append}
use Rattle.std.specs.List.{All, filter}
use Rattle.std.proofs.lemmas.List.{append_cancel_left, map-append}
use Rattle.std.proofs.lemmas.List.Elements.{filter-append, All-head, All-tail}
use Rattle.std.proofs.lemmas.Grind.{flat_map-append}
use Rattle.std.proofs.lemmas.Bool.{eq-eqb, ne_eqb}
use Rattle.chunk_model.specs.Chunks.{Chunk}
use Rattle.chunk_model.specs.Layout.{Layout, IsLayout}
use Rattle.chunk_model.specs.ChunkBytes.{chunk_bytes, bytes_of_chunks, chunk_starts, starts_of, IsWritable}
use Rattle.chunk_model.proofs.OnDevice.{one_chunk, length-chunk_bytes}

abbrev pub text_of : {X : Type 0} → Layout X → Chunk X → List ℕ
text_of layout c = chunk_bytes layout c.partition c.items

-- one chunk more
pub bytes_of_chunks-more : {X : Type 0} (layout : Layout X) (cs : List (Chunk X)) (c : Chunk X) →
    bytes_of_chunks layout (cs ++ c ∷ []) ≡ bytes_of_chunks layout cs ++ text_of layout c
bytes_of_chunks-more {X} layout cs c =
    flat_map-append (λ (d : Chunk X). text_of layout d) cs (c ∷ []) ∙ ap (λ ys. bytes_of_chunks layout cs ++ ys) (append-nil (text_of layout c))

pub chunk_starts-more : {X : Type 0} (layout : Layout X) (at : ℕ) (cs : List (Chunk X)) (c : Chunk X) →
    chunk_starts layout at (cs ++ c ∷ []) ≡ chunk_starts layout at cs ++ (at + length (bytes_of_chunks layout cs), c) ∷ []
chunk_starts-more {X} layout at [] c = ap (λ k. (k, c) ∷ []) (omega arith)
chunk_starts-more {X} layout at (d ∷ cs) c =
    ap (λ ys. (at, d) ∷ ys)
    (chunk_starts-more layout (at + length (text_of layout d)) cs c
    ∙ ap (λ k. chunk_starts layout (at + length (text_of layout d)) cs ++ (k, c) ∷ [])
    (omega (arith, length-append (text_of layout d) (bytes_of_chunks layout cs))))

starts_of-one : {X : Type 0} (layout : Layout X) (p at : ℕ) (cs : List (Chunk X)) (c : Chunk X) →
    starts_of layout p at (cs ++ c ∷ []) ≡ starts_of layout p at cs ++ map (λ (s : ℕ × Chunk X). s.0) (cond (c.partition == p) ((at + length (bytes_of_chunks layout cs), c) ∷ []) [])
starts_of-one {X} layout p at cs c =
    let first : ℕ × Chunk X → ℕ = λ s. s.0 in
    let mine : ℕ × Chunk X → Bool = λ s. s.1.partition == p in
    let last : List (ℕ × Chunk X) = (at + length (bytes_of_chunks layout cs), c) ∷ [] in
    ap (λ ys. map first (filter mine ys)) (chunk_starts-more layout at cs c)
    ∙ ap (map first) (filter-append mine (chunk_starts layout at cs) last)
    ∙ map-append first (filter mine (chunk_starts layout at cs)) (filter mine last)

pub starts_of-here : {X : Type 0} (layout : Layout X) (p at : ℕ) (cs : List (Chunk X)) (c : Chunk X) → c.partition ≡ p →
    starts_of layout p at (cs ++ c ∷ []) ≡ starts_of layout p at cs ++ (at + length (bytes_of_chunks layout cs)) ∷ []
starts_of-here {X} layout p at cs c here =
    starts_of-one layout p at cs c
    ∙ ap (λ b. starts_of layout p at cs ++ map (λ (s : ℕ × Chunk X). s.0) (cond b ((at + length (bytes_of_chunks layout cs), c) ∷ []) [])) (eq-eqb c.partition p here)

pub starts_of-other : {X : Type 0} (layout : Layout X) (p at : ℕ) (cs : List (Chunk X)) (c : Chunk X) → c.partition ≢ p →
    starts_of layout p at (cs ++ c ∷ []) ≡ starts_of layout p at cs
starts_of-other {X} layout p at cs c other =
    starts_of-one layout p at cs c
    ∙ ap (λ b. starts_of layout p at cs ++ map (λ (s : ℕ × Chunk X). s.0) (cond b ((at + length (bytes_of_chunks layout cs), c) ∷ []) [])) (ne_eqb c.partition p other)
    ∙ append-nil (starts_of layout p at cs)

-- **The bytes of chunks one behind another tell the chunks.**
nothing_or_chunk : {X : Type 0} (layout : Layout X) → IsLayout layout → (c : Chunk X) (cs : List (Chunk X)) → [] ≡ bytes_of_chunks layout (c ∷ cs) → ⊥
nothing_or_chunk layout laws c cs same =
    absurd (omega (arith, ap length same, length-append (text_of layout c) (bytes_of_chunks layout cs), length-chunk_bytes layout laws c.partition c.items))

pub same_chunks : {X : Type 0} (layout : Layout X) → IsLayout layout → (cs ds : List (Chunk X)) →
    All (IsWritable layout) cs → All (IsWritable layout) ds → bytes_of_chunks layout cs ≡ bytes_of_chunks layout ds → cs ≡ ds
same_chunks layout laws [] [] good good' same = refl
same_chunks layout laws [] (d ∷ ds) good good' same = absurd (nothing_or_chunk layout laws d ds same)
same_chunks layout laws (c ∷ cs) [] good good' same = absurd (nothing_or_chunk layout laws c cs (sym same))
same_chunks {X} layout laws (c ∷ cs) (d ∷ ds) good good' same =
    let here = All-head (IsWritable layout) c cs good in
    let here' = All-head (IsWritable layout) d ds good' in
    let both = one_chunk layout laws c.partition d.partition 0 (bytes_of_chunks layout (c ∷ cs)) c.items d.items
    here.partition here'.partition here.few here'.few here.held here'.held (bytes_of_chunks layout cs, refl) (bytes_of_chunks layout ds, same) in
    let made : ℕ → List X → Chunk X = λ p xs. record { partition = p; items = xs } in
    let first : c ≡ d = ap (λ p. made p c.items) both.0 ∙ ap (λ xs. made d.partition xs) both.1 in
    let behind : bytes_of_chunks layout cs ≡ bytes_of_chunks layout ds =
    append_cancel_left (text_of layout c) (bytes_of_chunks layout cs) (bytes_of_chunks layout ds)
    (same ∙ ap (λ x. text_of layout x ++ bytes_of_chunks layout ds) (sym first)) in
    ap (λ x. x ∷ cs) first ∙ ap (λ xs. d ∷ xs) (same_chunks layout laws cs ds (All-tail (IsWritable layout) c cs good) (All-tail (IsWritable layout) d ds good') behind)
