-- Events one after another.
use Rattle.std.proofs.Common.{◌≡◌, ℕ, ◌+◌, ◌<◌, List, [], ◌∷◌, ◌++◌, length, get_or, take, set, add-one, refl, sym, ◌∙◌, ap, subst}
use Rattle.std.proofs.Math.Seq.{take-suc, take-suc-set}
use Rattle.graph_model.specs.Programs.{Rules}
use Rattle.phase_core.specs.declared.event.Event.{Event}
use Rattle.phase_core.specs.declared.event.Reply.{Reply}
use Rattle.phase_core.specs.Machine.{Machine, reply, stepped}
use Rattle.phase_core.specs.Runs.{ran, replies}

pub ran-append : (rules : Rules) (m : Machine) (xs ys : List Event) → ran rules m (xs ++ ys) ≡ ran rules (ran rules m xs) ys
ran-append rules m [] ys = refl
ran-append rules m (x ∷ xs) ys = ran-append rules (stepped rules m x) xs ys

replies-more : (rules : Rules) (m : Machine) (xs : List Event) (x : Event) → replies rules m (xs ++ x ∷ []) ≡ replies rules m xs ++ reply (ran rules m xs) x ∷ []
replies-more rules m [] x = refl
replies-more rules m (y ∷ xs) x = ap (λ rest. reply m y ∷ rest) (replies-more rules (stepped rules m y) xs x)

module _ (rules : Rules) (m : Machine) (events : List Event) (i : ℕ) (d : Event) (below : i < length events) where
  front : take (i + 1) events ≡ take i events ++ get_or events i d ∷ []
  front = subst (λ k. take k events ≡ take i events ++ get_or events i d ∷ []) (sym (add-one i)) (take-suc events i d below)

  -- the machine after one event more
  pub ran_more : (before new : Machine) → before ≡ ran rules m (take i events) → new ≡ stepped rules before (get_or events i d) → new ≡ ran rules m (take (i + 1) events)
  ran_more before new so_far one =
      one ∙ ap (λ k. stepped rules k (get_or events i d)) so_far ∙ sym (ap (ran rules m) front ∙ ran-append rules m (take i events) (get_or events i d ∷ []))

  -- and its reply, behind those before
  pub replied_more : (before : Machine) (found : List Reply) (r : Reply) → before ≡ ran rules m (take i events) → i < length found → take i found ≡ replies rules m (take i events) →
      r ≡ reply before (get_or events i d) → take (i + 1) (set found i r) ≡ replies rules m (take (i + 1) events)
  replied_more before found r so_far room told one =
      subst (λ k. take k (set found i r) ≡ take i found ++ r ∷ []) (sym (add-one i)) (take-suc-set found i r room)
      ∙ ap (λ front. front ++ r ∷ []) told
      ∙ ap (λ last. replies rules m (take i events) ++ last ∷ []) (one ∙ ap (λ k. reply k (get_or events i d)) so_far)
      ∙ sym (ap (replies rules m) front ∙ replies-more rules m (take i events) (get_or events i d))
