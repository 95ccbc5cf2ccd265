-- What edges send to a vertex, edge by edge.
use Rattle.std.proofs.Common.{◌≡◌, ℕ, List, [], ◌∷◌, ◌++◌, Bool, true, false, cond, map, filter, ◌==◌, Option, Some, None, refl, ap, sym, ◌∙◌}
use Rattle.std.specs.List.{filter_map, cons_option}
use Rattle.std.proofs.lemmas.List.{map-append}
use Rattle.std.proofs.lemmas.List.Concat.{flat_map-cons}
use Rattle.std.proofs.lemmas.List.Elements.{filter-append}
use Rattle.graph_model.specs.declared.edge.Edge.{Edge}
use Rattle.graph_model.specs.declared.value.Value.{Value}
use Rattle.graph_model.specs.declared.value.Update.{Update}
use Rattle.graph_model.specs.Programs.{Rules}
use Rattle.graph_model.specs.Rounds.{value_at, sent_to}
use Rattle.graph_model.proofs.SentLemmas.{sent_to-append}
use Rattle.phase_model.specs.Sends.{Sending, is_sender, update_to, sent_along, sent_by}
use Rattle.phase_model.specs.Sums.{values_to}

pub values_to-append : (v : ℕ) (xs ys : List Update) → values_to v (xs ++ ys) ≡ values_to v xs ++ values_to v ys
values_to-append v xs ys = ap (map (λ (u : Update). u.value)) (filter-append (λ (u : Update). u.dst == v) xs ys) ∙ map-append (λ (u : Update). u.value) (filter (λ (u : Update). u.dst == v) xs) (filter (λ (u : Update). u.dst == v) ys)

module _ (p : Rules) (values : List Value) (before : Option (ℕ → Value)) (v : ℕ) where
  abbrev sending : Sending
  sending = record { send = p.send; now = value_at values; before = before }

  -- an edge whose source sends
  one : (e : Edge) (sent : Option ℕ) (here : Bool) → p.send (value_at values e.src) e.weight ≡ sent → (e.dst == v) ≡ here → values_to v (update_to e.dst sent) ≡ sent_to p (e ∷ []) values v
  one e None true sends at =
      sym (ap (λ here. filter_map (λ (x : Edge). p.send (value_at values x.src) x.weight) (cond here (e ∷ []) [])) at ∙ ap (λ sent. cons_option sent []) sends)
  one e None false sends apart = sym (ap (λ here. filter_map (λ (x : Edge). p.send (value_at values x.src) x.weight) (cond here (e ∷ []) [])) apart)
  one e (Some number) true sends at =
      let u : Update = record { dst = e.dst; value = number } in
      ap (λ here. map (λ (u : Update). u.value) (cond here (u ∷ []) [])) at
      ∙ sym (ap (λ here. filter_map (λ (x : Edge). p.send (value_at values x.src) x.weight) (cond here (e ∷ []) [])) at ∙ ap (λ sent. cons_option sent []) sends)
  one e (Some number) false sends apart =
      let u : Update = record { dst = e.dst; value = number } in
      ap (λ here. map (λ (u : Update). u.value) (cond here (u ∷ []) [])) apart
      ∙ sym (ap (λ here. filter_map (λ (x : Edge). p.send (value_at values x.src) x.weight) (cond here (e ∷ []) [])) apart)

  -- what an edge sends to the vertex, where its source sends or not
  along : (e : Edge) (sends : Bool) → is_sender sending e.src ≡ sends → values_to v (sent_along sending e) ≡ sent_to p (cond sends (e ∷ []) []) values v
  along e true is =
      ap (λ (sends : Bool). values_to v (cond sends (update_to e.dst (p.send (value_at values e.src) e.weight)) [])) is ∙ one e (p.send (value_at values e.src) e.weight) (e.dst == v) refl refl
  along e false is = ap (λ (sends : Bool). values_to v (cond sends (update_to e.dst (p.send (value_at values e.src) e.weight)) [])) is

  -- what edges send to the vertex is what the edges of senders do
  pub sent_by_senders : (edges : List Edge) → values_to v (sent_by sending edges) ≡ sent_to p (filter (λ (e : Edge). is_sender sending e.src) edges) values v
  sent_by_senders [] = refl
  sent_by_senders (e ∷ edges) =
      ap (values_to v) (flat_map-cons (sent_along sending) e edges)
      ∙ values_to-append v (sent_along sending e) (sent_by sending edges)
      ∙ ap (λ l. l ++ values_to v (sent_by sending edges)) (along e (is_sender sending e.src) refl)
      ∙ ap (λ l. sent_to p (cond (is_sender sending e.src) (e ∷ []) []) values v ++ l) (sent_by_senders edges)
      ∙ sym (sent_to-append p (cond (is_sender sending e.src) (e ∷ []) []) (filter (λ (x : Edge). is_sender sending x.src) edges) values v)
      ∙ joined (is_sender sending e.src)
    where
      joined : (sends : Bool) → sent_to p (cond sends (e ∷ []) [] ++ filter (λ (x : Edge). is_sender sending x.src) edges) values v
          ≡ sent_to p (cond sends (e ∷ filter (λ (x : Edge). is_sender sending x.src) edges) (filter (λ (x : Edge). is_sender sending x.src) edges)) values v
      joined true = refl
      joined false = refl

pub filter_all : {X : Type 0} (l : List X) → filter (λ (x : X). true) l ≡ l
filter_all [] = refl
filter_all (x ∷ l) = ap (λ m. x ∷ m) (filter_all l)
