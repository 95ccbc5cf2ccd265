-- For a program that absorbs, what the vertices that changed send is enough.
use Rattle.std.proofs.Common.{◌≡◌, ℕ, ◌+◌, ◌<◌, ◌≤◌, ◌^◌, zero, suc, List, [], ◌∷◌, ◌++◌, filter, Bool, true, false, cond, not, ◌==◌, ◌&&◌, Option, Some, None, refl, sym, ◌∙◌, ap, subst, arith}
use Rattle.std.specs.List.{All, filter_map, cons_option}
use Rattle.std.proofs.lemmas.List.Elements.{All-nil, All-cons, All-head, All-tail, All-append, All-filter, All-weaker, filter_passes}
use Rattle.std.proofs.lemmas.Bool.{not-true, not-false}
use Rattle.graph_model.specs.declared.edge.Edge.{Edge}
use Rattle.graph_model.specs.declared.value.Value.{Value}
use Rattle.graph_model.specs.Programs.{Rules}
use Rattle.graph_model.specs.Rounds.{merged, out_degree, value_at, sent_to, values, IsWithinGraph, has_changed, sent_by_changed, next_by_changed}
use Rattle.graph_model.proofs.RoundLemmas.{get_or-of_vertices, of_vertices_same, values-suc, same_value}
use Rattle.graph_model.proofs.SentLemmas.{sent_to-append}
use Rattle.gather_laws.specs.Laws.{GatherLaws}
use Rattle.gather_laws.proofs.MergeLemmas.{merged_is_sum, merged-append, left_commutes}

module _ (p : Rules) (IsSum : ℕ → Type 0) (laws : GatherLaws p IsSum) where
  -- what one edge sends is a sum
  sent_by_one-sums : (e : Edge) (now : List Value) (v : ℕ) → IsSum (value_at now e.src).main → All IsSum (sent_to p (e ∷ []) now v)
  sent_by_one-sums e now v is = by_test (e.dst == v)
    where
      by_sent : (sent : Option ℕ) → p.send (value_at now e.src) e.weight ≡ sent → All IsSum (cons_option sent [])
      by_sent None sends = All-nil IsSum
      by_sent (Some s) sends = All-cons IsSum s [] (laws.send_is_sum (value_at now e.src) e.weight s is sends) (All-nil IsSum)

      by_test : (here : Bool) → All IsSum (filter_map (λ (x : Edge). p.send (value_at now x.src) x.weight) (cond here (e ∷ []) []))
      by_test true = by_sent (p.send (value_at now e.src) e.weight) refl
      by_test false = All-nil IsSum

  -- what is sent from sums is sums
  pub sent_to-sums : (edges : List Edge) (now : List Value) (v : ℕ) → All (λ (e : Edge). IsSum (value_at now e.src).main) edges →
      All IsSum (sent_to p edges now v)
  sent_to-sums [] now v all = All-nil IsSum
  sent_to-sums (e ∷ edges) now v all =
      subst (All IsSum) (sym (sent_to-append p (e ∷ []) edges now v))
      (All-append IsSum (sent_to p (e ∷ []) now v) (sent_to p edges now v)
      (sent_by_one-sums e now v (All-head (λ (x : Edge). IsSum (value_at now x.src).main) e edges all))
      (sent_to-sums edges now v (All-tail (λ (x : Edge). IsSum (value_at now x.src).main) e edges all)))

  merged_sent-sum : (edges : List Edge) (now : List Value) (v : ℕ) → All (λ (e : Edge). IsSum (value_at now e.src).main) edges →
      IsSum (merged p (sent_to p edges now v))
  merged_sent-sum edges now v all = merged_is_sum p.unit p.merge IsSum laws.merging (sent_to p edges now v) (sent_to-sums edges now v all)

  -- one edge in front
  merged_sent-cons : (e : Edge) (edges : List Edge) (now : List Value) (v : ℕ) → All (λ (x : Edge). IsSum (value_at now x.src).main) (e ∷ edges) →
      merged p (sent_to p (e ∷ edges) now v) ≡ p.merge (merged p (sent_to p (e ∷ []) now v)) (merged p (sent_to p edges now v))
  merged_sent-cons e edges now v all =
      ap (merged p) (sent_to-append p (e ∷ []) edges now v)
      ∙ merged-append p.unit p.merge IsSum laws.merging (sent_to p (e ∷ []) now v) (sent_to p edges now v)
      (sent_by_one-sums e now v (All-head (λ (x : Edge). IsSum (value_at now x.src).main) e edges all))
      (sent_to-sums edges now v (All-tail (λ (x : Edge). IsSum (value_at now x.src).main) e edges all))

  -- the edges that pass a test, and the others
  merged_sent-filter_step : (test : Edge → Bool) (e : Edge) (edges : List Edge) (now : List Value) (v : ℕ) →
      All (λ (x : Edge). IsSum (value_at now x.src).main) (e ∷ edges) →
      merged p (sent_to p edges now v)
      ≡ p.merge (merged p (sent_to p (filter test edges) now v)) (merged p (sent_to p (filter (λ x. not (test x)) edges) now v)) →
      merged p (sent_to p (e ∷ edges) now v)
      ≡ p.merge (merged p (sent_to p (filter test (e ∷ edges)) now v)) (merged p (sent_to p (filter (λ x. not (test x)) (e ∷ edges)) now v))
  merged_sent-filter_step test e edges now v all below = elim (test e) as
      (λ b. merged p (sent_to p (e ∷ edges) now v)
      ≡ p.merge (merged p (sent_to p (cond b (e ∷ passed) passed) now v)) (merged p (sent_to p (cond (not b) (e ∷ others) others) now v))) [
        | true ↦ merged_sent-cons e edges now v all
            ∙ ap (p.merge here) below
            ∙ sym (laws.merging.associates here (sum passed) (sum others) here_is passed_is others_is)
            ∙ ap (λ s. p.merge s (sum others)) (sym (merged_sent-cons e passed now v (All-cons Sends e passed first passed_all)))
        | false ↦ merged_sent-cons e edges now v all
            ∙ ap (p.merge here) below
            ∙ left_commutes p.unit p.merge IsSum laws.merging here (sum passed) (sum others) here_is passed_is others_is
            ∙ ap (p.merge (sum passed)) (sym (merged_sent-cons e others now v (All-cons Sends e others first others_all)))
      ]
    where
      Sends : Edge → Type 0
      Sends = λ (x : Edge). IsSum (value_at now x.src).main

      passed : List Edge
      passed = filter test edges

      others : List Edge
      others = filter (λ x. not (test x)) edges

      first : IsSum (value_at now e.src).main
      first = All-head (λ (x : Edge). IsSum (value_at now x.src).main) e edges all

      passed_all : All (λ (x : Edge). IsSum (value_at now x.src).main) (filter test edges)
      passed_all = All-filter test (λ (x : Edge). IsSum (value_at now x.src).main) edges (All-tail (λ (x : Edge). IsSum (value_at now x.src).main) e edges all)

      others_all : All (λ (x : Edge). IsSum (value_at now x.src).main) (filter (λ x. not (test x)) edges)
      others_all = All-filter (λ x. not (test x)) (λ (x : Edge). IsSum (value_at now x.src).main) edges (All-tail (λ (x : Edge). IsSum (value_at now x.src).main) e edges all)

      sum : List Edge → ℕ
      sum some = merged p (sent_to p some now v)

      here : ℕ
      here = merged p (sent_to p (e ∷ []) now v)

      here_is : IsSum (merged p (sent_to p (e ∷ []) now v))
      here_is = merged_is_sum p.unit p.merge IsSum laws.merging (sent_to p (e ∷ []) now v) (sent_by_one-sums e now v first)

      passed_is : IsSum (merged p (sent_to p (filter test edges) now v))
      passed_is = merged_sent-sum (filter test edges) now v passed_all

      others_is : IsSum (merged p (sent_to p (filter (λ x. not (test x)) edges) now v))
      others_is = merged_sent-sum (filter (λ x. not (test x)) edges) now v others_all

  merged_sent-filter : (test : Edge → Bool) (edges : List Edge) (now : List Value) (v : ℕ) →
      All (λ (e : Edge). IsSum (value_at now e.src).main) edges →
      merged p (sent_to p edges now v)
      ≡ p.merge (merged p (sent_to p (filter test edges) now v)) (merged p (sent_to p (filter (λ e. not (test e)) edges) now v))
  merged_sent-filter test [] now v all = sym (laws.merging.neutral p.unit laws.merging.unit_is_sum)
  merged_sent-filter test (e ∷ edges) now v all =
      merged_sent-filter_step test e edges now v all
      (merged_sent-filter test edges now v (All-tail (λ (x : Edge). IsSum (value_at now x.src).main) e edges all))

  -- sources whose values are as before send as before
  sent_to-same : (edges : List Edge) (before now : List Value) (v : ℕ) → All (λ (e : Edge). value_at now e.src ≡ value_at before e.src) edges →
      sent_to p edges now v ≡ sent_to p edges before v
  sent_to-same [] before now v all = refl
  sent_to-same (e ∷ edges) before now v all =
      sent_to-append p (e ∷ []) edges now v
      ∙ ap (λ rest. sent_to p (e ∷ []) now v ++ rest)
      (sent_to-same edges before now v (All-tail (λ (x : Edge). value_at now x.src ≡ value_at before x.src) e edges all))
      ∙ ap (λ sent. sent ++ sent_to p edges before v) (first (e.dst == v))
      ∙ sym (sent_to-append p (e ∷ []) edges before v)
    where
      same : value_at now e.src ≡ value_at before e.src
      same = All-head (λ (x : Edge). value_at now x.src ≡ value_at before x.src) e edges all

      first : (here : Bool) → filter_map (λ (x : Edge). p.send (value_at now x.src) x.weight) (cond here (e ∷ []) [])
          ≡ filter_map (λ (x : Edge). p.send (value_at before x.src) x.weight) (cond here (e ∷ []) [])
      first true = ap (λ value. cons_option (p.send value e.weight) []) same
      first false = refl

  unchanged_same : (edges : List Edge) (before now : List Value) →
      All (λ (e : Edge). value_at now e.src ≡ value_at before e.src) (filter (λ (e : Edge). not (has_changed before now e.src)) edges)
  unchanged_same edges before now =
      All-weaker (λ (e : Edge). not (has_changed before now e.src) ≡ true) (λ (e : Edge). value_at now e.src ≡ value_at before e.src)
      (λ e unchanged. same_value (value_at now e.src) (value_at before e.src)
      (not-false ((value_at now e.src).main == (value_at before e.src).main && (value_at now e.src).side == (value_at before e.src).side)
      (not-true (has_changed before now e.src) unchanged)))
      (filter (λ (e : Edge). not (has_changed before now e.src)) edges)
      (filter_passes (λ (e : Edge). not (has_changed before now e.src)) edges)

  -- the sum of a vertex, by what changed and what did not
  merged_by_changed : (edges : List Edge) (before now : List Value) (v : ℕ) → All (λ (e : Edge). IsSum (value_at now e.src).main) edges →
      merged p (sent_to p edges now v)
      ≡ p.merge (merged p (sent_by_changed p edges before now v))
      (merged p (sent_to p (filter (λ (e : Edge). not (has_changed before now e.src)) edges) before v))
  merged_by_changed edges before now v all =
      merged_sent-filter (λ (e : Edge). has_changed before now e.src) edges now v all
      ∙ ap (λ sent. p.merge (merged p (sent_by_changed p edges before now v)) (merged p sent))
      (sent_to-same (filter (λ (e : Edge). not (has_changed before now e.src)) edges) before now v (unchanged_same edges before now))

  -- one vertex: its next value is the one that what changed gives
  next_absorbs : p.absorbs ≡ true → (edges : List Edge) (before now : List Value) (v : ℕ) →
      All (λ (e : Edge). IsSum (value_at before e.src).main) edges → All (λ (e : Edge). IsSum (value_at now e.src).main) edges →
      IsSum (value_at before v).main → value_at now v ≡ p.next (value_at before v) (merged p (sent_to p edges before v)) →
      p.next (value_at now v) (merged p (sent_to p edges now v)) ≡ p.next (value_at now v) (merged p (sent_by_changed p edges before now v))
  next_absorbs absorbs edges before now v before_all now_all value_is is_next =
      ap (p.next (value_at now v)) (merged_by_changed edges before now v now_all)
      ∙ ap (λ value. p.next value (p.merge t u)) at
      ∙ laws.absorbing absorbs (value_at before v) s t u value_is s_is t_is u_is
      ∙ ap (λ value. p.next value t) (sym at)
    where
      s : ℕ
      s = merged p (sent_to p (filter (λ (e : Edge). has_changed before now e.src) edges) before v)

      t : ℕ
      t = merged p (sent_by_changed p edges before now v)

      u : ℕ
      u = merged p (sent_to p (filter (λ (e : Edge). not (has_changed before now e.src)) edges) before v)

      at : value_at now v ≡ p.next (value_at before v)
          (p.merge (merged p (sent_to p (filter (λ (e : Edge). has_changed before now e.src) edges) before v))
          (merged p (sent_to p (filter (λ (e : Edge). not (has_changed before now e.src)) edges) before v)))
      at = is_next ∙ ap (p.next (value_at before v)) (merged_sent-filter (λ (e : Edge). has_changed before now e.src) edges before v before_all)

      s_is : IsSum (merged p (sent_to p (filter (λ (e : Edge). has_changed before now e.src) edges) before v))
      s_is = merged_sent-sum (filter (λ (e : Edge). has_changed before now e.src) edges) before v
          (All-filter (λ (e : Edge). has_changed before now e.src) (λ (e : Edge). IsSum (value_at before e.src).main) edges before_all)

      t_is : IsSum (merged p (sent_by_changed p edges before now v))
      t_is = merged_sent-sum (filter (λ (e : Edge). has_changed before now e.src) edges) now v
          (All-filter (λ (e : Edge). has_changed before now e.src) (λ (e : Edge). IsSum (value_at now e.src).main) edges now_all)

      u_is : IsSum (merged p (sent_to p (filter (λ (e : Edge). not (has_changed before now e.src)) edges) before v))
      u_is = merged_sent-sum (filter (λ (e : Edge). not (has_changed before now e.src)) edges) before v
          (All-filter (λ (e : Edge). not (has_changed before now e.src)) (λ (e : Edge). IsSum (value_at before e.src).main) edges before_all)

  -- the values of each round are sums
  values_from : (n : ℕ) (edges : List Edge) (now : List Value) → IsWithinGraph n edges → ((v : ℕ) → v < n → IsSum (value_at now v).main) →
      All (λ (e : Edge). IsSum (value_at now e.src).main) edges
  values_from n edges now within each =
      All-weaker (λ (e : Edge). (e.src < n) × (e.dst < n)) (λ (e : Edge). IsSum (value_at now e.src).main) (λ e ends. each e.src ends.0) edges within

  pub values-sums : (n : ℕ) (edges : List Edge) → n ≤ 2 ^ 32 → IsWithinGraph n edges → (round v : ℕ) → v < n →
      IsSum (value_at (values p n edges round) v).main
  unfolding values
  values-sums n edges few within zero v below =
      subst (λ (value : Value). IsSum value.main) (sym (get_or-of_vertices n (λ k. p.start k (out_degree edges k)) v (record { main = 0; side = 0 }) below))
      (laws.start_is_sum v (out_degree edges v) (omega arith))
  values-sums n edges few within (suc round) v below =
      let now : List Value = values p n edges round in
      let each : (k : ℕ) → k < n → IsSum (value_at now k).main = values-sums n edges few within round in
      subst (λ (value : Value). IsSum value.main)
      (sym (get_or-of_vertices n (λ k. p.next (value_at now k) (merged p (sent_to p edges now k))) v (record { main = 0; side = 0 }) below))
      (laws.next_is_sum (value_at now v) (merged p (sent_to p edges now v)) (each v below)
      (merged_sent-sum edges now v (values_from n edges now within each)))

  -- **From round 2 on, what the vertices that changed send is enough.**
  pub changed_are_enough : p.absorbs ≡ true → (n : ℕ) (edges : List Edge) → n ≤ 2 ^ 32 → IsWithinGraph n edges → (round : ℕ) →
      values p n edges (round + 2) ≡ next_by_changed p n edges (values p n edges round) (values p n edges (round + 1))
  changed_are_enough absorbs n edges few within round =
      let before : List Value = values p n edges round in
      let now : List Value = values p n edges (round + 1) in
      let before_each : (v : ℕ) → v < n → IsSum (value_at before v).main = values-sums n edges few within round in
      let now_each : (v : ℕ) → v < n → IsSum (value_at now v).main = values-sums n edges few within (round + 1) in
      let now_at : (v : ℕ) → v < n → value_at now v ≡ p.next (value_at before v) (merged p (sent_to p edges before v))
      = λ v below. ap (λ found. value_at found v) (values-suc p n edges round)
      ∙ get_or-of_vertices n (λ k. p.next (value_at before k) (merged p (sent_to p edges before k))) v (record { main = 0; side = 0 }) below in
      let two : round + 2 ≡ round + 1 + 1 = omega arith in
      ap (values p n edges) two ∙ values-suc p n edges (round + 1)
      ∙ of_vertices_same n (λ v. p.next (value_at now v) (merged p (sent_to p edges now v)))
      (λ v. p.next (value_at now v) (merged p (sent_by_changed p edges before now v)))
      (λ v below. next_absorbs absorbs edges before now v (values_from n edges before within before_each)
      (values_from n edges now within now_each) (before_each v below) (now_at v below))
