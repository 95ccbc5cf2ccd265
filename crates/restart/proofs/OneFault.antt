-- The first check that fails is one: no two answers are both right, and none is where all checks pass.
use Rattle.std.proofs.Common.{◌≡◌, ◌∙◌, ◌⊎◌, ℕ, zero, suc, ◌+◌, ◌<◌, ◌≤◌, List, [], ◌∷◌, ◌++◌, length, drop, Option, Some, None, inl, inr, refl, sym, ap, subst, arith, append-nil, append_assoc, length-append, length-drop}
use Rattle.std.specs.List.{All}
use Rattle.std.proofs.lemmas.Bool.{cases_lt}
use Rattle.std.proofs.lemmas.List.{append_cancel_left}
use Rattle.std.proofs.lemmas.List.Elements.{All-head, All-tail, All-weaker}
use Rattle.graph_model.specs.declared.edge.Edge.{Edge}
use Rattle.chunk_model.specs.Chunks.{Chunk}
use Rattle.chunk_model.specs.Layout.{Layout, IsLayout, edge_layout}
use Rattle.chunk_model.specs.ChunkBytes.{IsWritable, chunk_bytes, bytes_of_chunks}
use Rattle.chunk_model.proofs.LayoutLaws.{edge_layout_is}
use Rattle.chunk_model.proofs.ManyChunks.{same_chunks}
use Rattle.chunk_model.proofs.OnDevice.{one_chunk}
use Rattle.store_model.specs.declared.field.Field.TheVariants.{Format}
use Rattle.store_model.specs.declared.field.TheConstants.{FIELDS}
use Rattle.store_model.specs.Kept.{device, IsPrepared, IsUnprepared}
use Rattle.store_model.specs.Damage.{Fault, GraphDamaged, value_of, parts_in, head_of, first_of, first_over, first_bad, is_good, at_graph, heads_fault, values_fault, IsEdgeChunk, BeginsWith, AreChunks, StopsAt, HasFault, IsSound, chunks_before, MOST_CHUNKS}
use Rattle.store_checks.proofs.GoodHeads.{good_head}
use Rattle.restart.specs.declared.recovering.Recovered.{Recovered}
use Rattle.restart.specs.declared.recovering.Recovered.TheVariants.{Found, Fresh}
use Rattle.restart.specs.Recovering.{IsRecovered}
use Rattle.restart.proofs.PlacedChunks.{over_more, over_same, over_le}

-- Two lists of chunks at one place: one of them goes on with the other.
module _ {X : Type 0} (layout : Layout X) (laws : IsLayout layout) where
  -- the second goes on with the first
  abbrev pub GoesOn : (cs : List (Chunk X)) → (r : List ℕ) → (ds : List (Chunk X)) → (s : List ℕ) → Type 0
  GoesOn cs r ds s = (more : List (Chunk X)) × (ds ≡ cs ++ more) × (r ≡ bytes_of_chunks layout more ++ s)

  one_more : (c d : Chunk X) (cs ds : List (Chunk X)) (r s : List ℕ) → c ≡ d → GoesOn cs r ds s → GoesOn (c ∷ cs) r (d ∷ ds) s
  one_more c d cs ds r s same on = (on.0, ap (λ x. x ∷ ds) (sym same) ∙ ap (λ xs. c ∷ xs) on.1, on.2)

  pub compared : (cs ds : List (Chunk X)) (r s : List ℕ) → All (IsWritable layout) cs → All (IsWritable layout) ds → bytes_of_chunks layout cs ++ r ≡ bytes_of_chunks layout ds ++ s
      → GoesOn cs r ds s ⊎ GoesOn ds s cs r
  compared [] ds r s good good' same = inl (ds, refl, same)
  compared (c ∷ cs) [] r s good good' same = inr (c ∷ cs, refl, sym same)
  compared (c ∷ cs) (d ∷ ds) r s good good' same =
      let here = All-head (IsWritable layout) c cs good in
      let here' = All-head (IsWritable layout) d ds good' in
      let front = append_assoc (chunk_bytes layout c.partition c.items) (bytes_of_chunks layout cs) r in
      let front' = append_assoc (chunk_bytes layout d.partition d.items) (bytes_of_chunks layout ds) s in
      let both = one_chunk layout laws c.partition d.partition 0 (bytes_of_chunks layout (c ∷ cs) ++ r) c.items d.items
      here.partition here'.partition here.few here'.few here.held here'.held (bytes_of_chunks layout cs ++ r, front) (bytes_of_chunks layout ds ++ s, same ∙ front') in
      let made : ℕ → List X → Chunk X = λ p xs. record { partition = p; items = xs } in
      let first : c ≡ d = ap (λ p. made p c.items) both.0 ∙ ap (λ xs. made d.partition xs) both.1 in
      let behind : bytes_of_chunks layout cs ++ r ≡ bytes_of_chunks layout ds ++ s =
      append_cancel_left (chunk_bytes layout d.partition d.items) (bytes_of_chunks layout cs ++ r) (bytes_of_chunks layout ds ++ s)
      (ap (λ (x : Chunk X). chunk_bytes layout x.partition x.items ++ (bytes_of_chunks layout cs ++ r)) (sym first) ∙ sym front ∙ same ∙ front') in
      elim (compared cs ds r s (All-tail (IsWritable layout) c cs good) (All-tail (IsWritable layout) d ds good') behind) [
        | inl on ↦ inl (one_more c d cs ds r s first on)
        | inr on ↦ inr (one_more d c ds cs s r (sym first) on)
      ]

-- Stops of the scan, where the heads say what is in `head`.
module _ (head : List ℕ) (few : parts_in head ≤ 64) (graphs : List (List ℕ)) where
  abbrev layout : Layout Edge
  layout = edge_layout (value_of Format head)

  laws : IsLayout layout
  laws = edge_layout_is (value_of Format head)

  writable : (c : Chunk Edge) → IsEdgeChunk head c → IsWritable layout c
  writable c is = record { partition = omega (arith, is.partition, few); few = is.are.counted; held = is.are.held }

  all_writable : (cs : List (Chunk Edge)) → All (IsEdgeChunk head) cs → All (IsWritable layout) cs
  all_writable cs are = All-weaker (IsEdgeChunk head) (IsWritable layout) writable cs are

  last_is : (made : List (Chunk Edge)) (d : Chunk Edge) (more : List (Chunk Edge)) → All (IsEdgeChunk head) (made ++ d ∷ more) → IsEdgeChunk head d
  last_is [] d more all = All-head (IsEdgeChunk head) d more all
  last_is (c ∷ cs) d more all = last_is cs d more (All-tail (IsEdgeChunk head) c (cs ++ d ∷ more) all)

  -- whole devices have one list of chunks each
  same_whole : (cs ds : List (Chunk Edge)) (bytes : List ℕ) → BeginsWith head cs [] bytes → BeginsWith head ds [] bytes → cs ≡ ds
  same_whole cs ds bytes is is' =
      same_chunks layout laws cs ds (all_writable cs is.are) (all_writable ds is'.are)
      (sym (append-nil (bytes_of_chunks layout cs)) ∙ sym is.stand ∙ is'.stand ∙ append-nil (bytes_of_chunks layout ds))

  same_before : (a b : ℕ → List (Chunk Edge)) (n : ℕ) → ((k : ℕ) → k < n → BeginsWith head (a k) [] (device graphs k)) → ((k : ℕ) → k < n → BeginsWith head (b k) [] (device graphs k)) → chunks_before a n ≡ chunks_before b n
  same_before a b n is is' = over_same (λ k. length (a k)) (λ k. length (b k)) n (λ k below. ap length (same_whole (a k) (b k) (device graphs k) (is k below) (is' k below)))

  before_next : (made : ℕ → List (Chunk Edge)) (n : ℕ) → chunks_before made (n + 1) ≡ chunks_before made n + length (made n)
  before_next made n = let same : suc n ≡ n + 1 = omega arith in subst (λ k. chunks_before made k ≡ chunks_before made n + length (made n)) same (over_more (λ k. length (made k)) n)

  -- no chunk goes on where a scan stops
  no_more : (e at : ℕ) (stops : StopsAt head graphs e at) (more : List (Chunk Edge)) (s : List ℕ) → All (IsEdgeChunk head) (stops.made e ++ more) → drop at (device graphs e) ≡ bytes_of_chunks layout more ++ s
      → chunks_before stops.made e + length (stops.made e ++ more) ≤ MOST_CHUNKS → more ≡ []
  no_more e at stops [] s are rest within = refl
  no_more e at stops (d ∷ more) s are rest within = elim stops.stopped [
    | inl none ↦ absurd (none d (last_is (stops.made e) d more are) (bytes_of_chunks layout more ++ s, rest ∙ append_assoc (chunk_bytes layout d.partition d.items) (bytes_of_chunks layout more) s))
    | inr full ↦ absurd (omega (arith, full, within, before_next stops.made e, length-append (stops.made e) (d ∷ more)))
  ]

  -- another list of chunks ends where the scan stops, or before it
  ends_there : (e at : ℕ) (stops : StopsAt head graphs e at) (ds : List (Chunk Edge)) (s : List ℕ) → BeginsWith head ds s (device graphs e) → chunks_before stops.made e + length ds ≤ MOST_CHUNKS
      → GoesOn layout laws (stops.made e) (drop at (device graphs e)) ds s → drop at (device graphs e) ≡ s
  ends_there e at stops ds s is within on =
      let none : on.0 ≡ [] = no_more e at stops on.0 s (subst (All (IsEdgeChunk head)) on.1 is.are) on.2 (subst (λ (cs : List (Chunk Edge)). chunks_before stops.made e + length cs ≤ MOST_CHUNKS) on.1 within) in
      on.2 ∙ ap (λ cs. bytes_of_chunks layout cs ++ s) none

  -- a device on which a scan stops is not passed
  not_passed : (e at n : ℕ) (stops : StopsAt head graphs e at) (made : ℕ → List (Chunk Edge)) → e < n → ((k : ℕ) → k < n → BeginsWith head (made k) [] (device graphs k)) → chunks_before made n ≤ MOST_CHUNKS → ⊥
  not_passed e at n stops made below is within =
      let bytes = device graphs e in
      let whole = is e below in
      let same : chunks_before stops.made e ≡ chunks_before made e = same_before stops.made made e stops.before (λ k less. is k (omega (arith, less, below))) in
      let room : chunks_before stops.made e + length (made e) ≤ MOST_CHUNKS = omega (arith, same, before_next made e, over_le (λ k. length (made k)) (e + 1) n (omega (arith, below)), within) in
      let left : 0 < length (drop at bytes) = omega (arith, stops.within, length-drop at bytes) in
      elim (compared layout laws (stops.made e) (made e) (drop at bytes) [] (all_writable (stops.made e) stops.here.are) (all_writable (made e) whole.are) (sym stops.here.stand ∙ whole.stand)) [
        | inl on ↦ absurd (omega (arith, left, ap length (ends_there e at stops (made e) [] whole room on)))
        | inr on ↦ absurd (omega (arith, left, ap length on.2, length-append (bytes_of_chunks layout on.0) (drop at bytes)))
      ]

  same_end : (a b : ℕ) (bytes : List ℕ) → a < length bytes → b < length bytes → drop a bytes ≡ drop b bytes → a ≡ b
  same_end a b bytes within within' same = omega (arith, within, within', ap length same, length-drop a bytes, length-drop b bytes)

  -- two scans of one device stop at one byte
  same_stop : (e at at' : ℕ) → StopsAt head graphs e at → StopsAt head graphs e at' → at ≡ at'
  same_stop e at at' stops stops' =
      let bytes = device graphs e in
      let same : chunks_before stops.made e ≡ chunks_before stops'.made e = same_before stops.made stops'.made e stops.before stops'.before in
      elim (compared layout laws (stops.made e) (stops'.made e) (drop at bytes) (drop at' bytes) (all_writable (stops.made e) stops.here.are) (all_writable (stops'.made e) stops'.here.are) (sym stops.here.stand ∙ stops'.here.stand)) [
        | inl on ↦
            same_end at at' bytes stops.within stops'.within
            (ends_there e at stops (stops'.made e) (drop at' bytes) stops'.here (omega (arith, same, before_next stops'.made e, stops'.few)) on)
        | inr on ↦
            sym (same_end at' at bytes stops'.within stops.within
            (ends_there e at' stops' (stops.made e) (drop at bytes) stops.here (omega (arith, same, before_next stops.made e, stops.few)) on))
      ]

  -- **The scan of all devices stops at one byte.**
  pub one_stop : (e e' at at' : ℕ) → StopsAt head graphs e at → StopsAt head graphs e' at' → GraphDamaged e at ≡ GraphDamaged e' at'
  one_stop e e' at at' stops stops' = elim (cases_lt e e') [
    | inl less ↦ absurd (not_passed e at e' stops stops'.made less stops'.before (omega (arith, before_next stops'.made e', stops'.few)))
    | inr from ↦ elim (cases_lt e' e) [
      | inl less ↦ absurd (not_passed e' at' e stops' stops.made less stops.before (omega (arith, before_next stops.made e, stops.few)))
      | inr from' ↦
          let same : e' ≡ e = omega (arith, from, from') in
          let place : at ≡ at' = same_stop e at at' stops (subst (λ k. StopsAt head graphs k at') same stops') in
          ap (λ n. GraphDamaged e n) place ∙ ap (λ k. GraphDamaged k at') (sym same)
    ]
  ]

  pub no_stop_in_chunks : (e at : ℕ) (made : ℕ → List (Chunk Edge)) → StopsAt head graphs e at → AreChunks head graphs made → ⊥
  no_stop_in_chunks e at made stops chunks = not_passed e at (length graphs) stops made stops.engine chunks.each chunks.few

-- where no head fails a store has no more partitions than 64
none_first : (found : Option Fault) (others : List (Option Fault)) → first_of (found ∷ others) ≡ None → found ≡ None
none_first None others none = refl
none_first (Some fault) others none = absurd (cc)

none_at : (e : ℕ) (found : Option ℕ) → at_graph e found ≡ None → found ≡ None
none_at e None none = refl
none_at e (Some at) none = absurd (cc)

none_at_start : (check : ℕ → Option Fault) (count : ℕ) → 0 < count → first_over check count ≡ None → check 0 ≡ None
none_at_start check zero some none = absurd (omega arith)
none_at_start check (suc n) some none = none_first (check 0) _ none

few_parts : (graphs : List (List ℕ)) (e : ℕ) → e < length graphs → heads_fault graphs ≡ None → parts_in (head_of graphs 0) ≤ 64
few_parts graphs e within none =
    let checks = none_first (first_over (λ k. at_graph k (first_bad (is_good k (head_of graphs k)) FIELDS)) (length graphs)) _ none in
    let first = none_at_start (λ k. at_graph k (first_bad (is_good k (head_of graphs k)) FIELDS)) (length graphs) (omega (arith, within)) checks in
    (good_head 0 (head_of graphs 0) (none_at 0 (first_bad (is_good 0 (head_of graphs 0)) FIELDS) first)).parts

some_same : (x : Option Fault) (f g : Fault) → x ≡ Some f → x ≡ Some g → f ≡ g
some_same (Some h) f g is is' = cc
some_same None f g is is' = absurd (cc)

some_none : (x : Option Fault) (f : Fault) → x ≡ Some f → x ≡ None → ⊥
some_none (Some h) f is none = cc
some_none None f is none = cc

module _ (graphs values : List (List ℕ)) where
  not_both : IsUnprepared graphs → IsPrepared graphs → ⊥
  not_both shut prepared = shut.2 (prepared shut.0 shut.1)

  no_stop : (e at : ℕ) (made : ℕ → List (Chunk Edge)) → heads_fault graphs ≡ None → StopsAt (head_of graphs 0) graphs e at → AreChunks (head_of graphs 0) graphs made → ⊥
  no_stop e at made heads stops chunks = no_stop_in_chunks (head_of graphs 0) (few_parts graphs e stops.engine heads) graphs e at made stops chunks

  -- **Two first faults are one.**
  pub one_fault : (f g : Fault) → HasFault graphs values f → HasFault graphs values g → f ≡ g
  one_fault f g (inl a) (inl b) = a.0 ∙ sym b.0
  one_fault f g (inl a) (inr (inl b)) = absurd (not_both a.1 b.0)
  one_fault f g (inl a) (inr (inr (inl b))) = absurd (not_both a.1 b.0)
  one_fault f g (inl a) (inr (inr (inr b))) = absurd (not_both a.1 b.0)
  one_fault f g (inr (inl a)) (inl b) = absurd (not_both b.1 a.0)
  one_fault f g (inr (inr (inl a))) (inl b) = absurd (not_both b.1 a.0)
  one_fault f g (inr (inr (inr a))) (inl b) = absurd (not_both b.1 a.0)
  one_fault f g (inr (inl a)) (inr (inl b)) = some_same (heads_fault graphs) f g a.1 b.1
  one_fault f g (inr (inl a)) (inr (inr (inl b))) = absurd (some_none (heads_fault graphs) f a.1 b.1)
  one_fault f g (inr (inl a)) (inr (inr (inr b))) = absurd (some_none (heads_fault graphs) f a.1 b.1)
  one_fault f g (inr (inr (inl a))) (inr (inl b)) = absurd (some_none (heads_fault graphs) g b.1 a.1)
  one_fault f g (inr (inr (inr a))) (inr (inl b)) = absurd (some_none (heads_fault graphs) g b.1 a.1)
  one_fault f g (inr (inr (inl a))) (inr (inr (inl b))) =
      a.2.2 ∙ one_stop (head_of graphs 0) (few_parts graphs a.2.0 a.2.3.engine a.1) graphs a.2.0 b.2.0 a.2.1 b.2.1 a.2.3 b.2.3 ∙ sym b.2.2
  one_fault f g (inr (inr (inl a))) (inr (inr (inr b))) = absurd (no_stop a.2.0 a.2.1 b.2.0 a.1 a.2.3 b.2.1)
  one_fault f g (inr (inr (inr a))) (inr (inr (inl b))) = absurd (no_stop b.2.0 b.2.1 a.2.0 b.1 b.2.3 a.2.1)
  one_fault f g (inr (inr (inr a))) (inr (inr (inr b))) = some_same (values_fault (head_of graphs 0) values) f g a.3 b.3

  -- **And there is none where no check fails.**
  pub sound_has_none : (f : Fault) (made : ℕ → List (Chunk Edge)) → IsSound graphs values made → HasFault graphs values f → ⊥
  sound_has_none f made sound (inl a) = not_both a.1 sound.prepared
  sound_has_none f made sound (inr (inl a)) = some_none (heads_fault graphs) f a.1 sound.heads
  sound_has_none f made sound (inr (inr (inl a))) = no_stop a.2.0 a.2.1 made sound.heads a.2.3 sound.chunks
  sound_has_none f made sound (inr (inr (inr a))) = some_none (values_fault (head_of graphs 0) values) f a.3 sound.slots

  -- so none of what is recovered
  pub recovered_has_none : (recovered : Recovered) (f : Fault) → IsRecovered graphs values recovered → HasFault graphs values f → ⊥
  recovered_has_none (Found job index round changed) f is found = sound_has_none f is.0.made is.0.sound found
  recovered_has_none (Fresh job index) f is found = sound_has_none f is.0.made is.0.sound found
