-- Epochs one after the other: what stands in the story, what is whole, what is opened, and how many chunks were taken.
use Rattle.std.proofs.Common.{◌≡◌, ℕ, ◌+◌, ◌*◌, ◌≤◌, Bool, true, false, List, [], ◌∷◌, ◌++◌, length, refl, sym, ◌∙◌, ap, subst, arith, All, if◌then◌else◌}
use Rattle.std.proofs.lemmas.List.{append-nil, append_assoc, length-append}
use Rattle.std.proofs.lemmas.List.Elements.{All-head, All-tail}
use Rattle.std.proofs.lemmas.Grind.{flat_map-append}
use Rattle.std.specs.List.{flat_map}
use Rattle.chunk_object.proofs.Covered.{count_by-append}
use Rattle.epoch_seats.specs.Between.{IsBetweenEpochs}
use Rattle.graph_model.specs.declared.edge.Edge.{Edge}
use Rattle.graph_model.specs.declared.job.Job.{Job}
use Rattle.graph_model.specs.Programs.{Rules}
use Rattle.chunk_object.specs.Epochs.{Terms, Epoch, epoch_entries, epochs_entries, all_calls}
use Rattle.chunk_cursor.specs.declared.view.View.{View}
use Rattle.phase_model.specs.Taken.{claims, is_admission, admissions}
use Rattle.phase_model.proofs.Lists.{claims-append}
use Rattle.round_steps.specs.Epochs.{IsWhole, WholeButLast, GoesThrough, ForFirst, ForRound}
use Rattle.round_loop.specs.Opening.{OpensEdges, OpensUpdates, OpensRounds, AreEpochsOf, sends_changed}

entries_append : (terms : Terms) (s : ℕ) (xs ys : List Epoch) → epochs_entries terms s (xs ++ ys) ≡ epochs_entries terms s xs ++ epochs_entries terms (s + terms.engines * length xs) ys
entries_append terms s [] ys = let none : s ≡ s + terms.engines * 0 = omega arith in ap (λ k. epochs_entries terms k ys) none
entries_append terms s (x ∷ xs) ys =
    let rest : epochs_entries terms (s + terms.engines) (xs ++ ys) ≡ epochs_entries terms (s + terms.engines) xs ++ epochs_entries terms (s + terms.engines + terms.engines * length xs) ys = entries_append terms (s + terms.engines) xs ys in
    let there : s + terms.engines + terms.engines * length xs ≡ s + terms.engines * length (x ∷ xs) = omega arith in
    ap (λ l. epoch_entries terms s x ++ l) rest
    ∙ sym (append_assoc (epoch_entries terms s x) (epochs_entries terms (s + terms.engines) xs) (epochs_entries terms (s + terms.engines + terms.engines * length xs) ys))
    ∙ ap (λ k. (epoch_entries terms s x ++ epochs_entries terms (s + terms.engines) xs) ++ epochs_entries terms k ys) there

pub calls_append : (xs ys : List Epoch) → flat_map all_calls (xs ++ ys) ≡ flat_map all_calls xs ++ flat_map all_calls ys
calls_append xs ys = flat_map-append all_calls xs ys

-- two runs of epochs, one behind the other
pub through_then : (terms : Terms) (first mid last : View) (took helped more_took more_helped : ℕ) (xs ys : List Epoch) → GoesThrough terms first mid took helped xs → GoesThrough terms mid last more_took more_helped ys →
    GoesThrough terms first last (took + more_took) (helped + more_helped) (xs ++ ys)
through_then terms first mid last took helped more_took more_helped xs ys one two = record {
  story = two.story ∙ ap (λ k. mid.story ++ epochs_entries terms k ys) one.splits ∙ ap (λ l. l ++ epochs_entries terms (first.splits + terms.engines * length xs) ys) one.story
      ∙ append_assoc first.story (epochs_entries terms first.splits xs) (epochs_entries terms (first.splits + terms.engines * length xs) ys)
      ∙ ap (λ l. first.story ++ l) (sym (entries_append terms first.splits xs ys));
  splits = two.splits ∙ ap (λ k. k + terms.engines * length ys) one.splits ∙ lengths;
  held = two.held ∙ one.held;
  between = two.between;
  whole = λ stands. two.whole (one.whole stands);
  claims_are = both one.claims_are two.claims_are ∙ sym (claims-append (flat_map all_calls xs) (flat_map all_calls ys)) ∙ ap claims (sym (calls_append xs ys));
  admissions_are = both one.admissions_are two.admissions_are ∙ sym (count_by-append is_admission (flat_map all_calls xs) (flat_map all_calls ys)) ∙ ap admissions (sym (calls_append xs ys));
}
  where
    lengths : first.splits + terms.engines * length xs + terms.engines * length ys ≡ first.splits + terms.engines * length (xs ++ ys)
    lengths = let long : length (xs ++ ys) ≡ length xs + length ys = length-append xs ys in
        let split : first.splits + terms.engines * length xs + terms.engines * length ys ≡ first.splits + terms.engines * (length xs + length ys) = omega arith in
        split ∙ ap (λ n. first.splits + terms.engines * n) (sym long)

    both : {a b c d : ℕ} → a ≡ b → c ≡ d → a + c ≡ b + d
    both {a} {b} {c} {d} one two = ap (λ n. n + c) one ∙ ap (λ n. b + n) two

-- no epochs
pub through_none : (terms : Terms) (v : View) → IsBetweenEpochs v → GoesThrough terms v v 0 0 []
through_none terms v between = record {
  story = sym (append-nil v.story);
  splits = omega arith;
  held = refl;
  between = between;
  whole = λ stands. stands;
  claims_are = refl;
  admissions_are = refl;
}

-- whole epochs, and behind them some of which the last may have been stopped
pub fronts_then : (terms : Terms) (xs ys : List Epoch) → All (IsWhole terms) xs → 1 ≤ length ys → WholeButLast terms ys → WholeButLast terms (xs ++ ys)
fronts_then terms [] ys whole some fronts = fronts
fronts_then terms (x ∷ []) [] whole some fronts = absurd (omega arith)
fronts_then terms (x ∷ []) (y ∷ ys) whole some fronts = (All-head (IsWhole terms) x [] whole, fronts)
fronts_then terms (x ∷ next ∷ xs) ys whole some fronts = (All-head (IsWhole terms) x (next ∷ xs) whole, fronts_then terms (next ∷ xs) ys (All-tail (IsWhole terms) x (next ∷ xs) whole) some fronts)

-- What epochs open.
module _ (rules : Rules) (job : Job) (edges : List Edge) where
  opens_then : (first t round : ℕ) (xs ys : List Epoch) (s later : ℕ) → s ≡ t + length xs → 2 * later ≡ 2 * round + length xs → OpensRounds rules job edges first t round xs → OpensRounds rules job edges first s later ys →
      OpensRounds rules job edges first t round (xs ++ ys)
  opens_then first t round [] ys s later is_t is_round opens more =
      let same_t : s ≡ t = omega (arith, is_t) in
      let same_round : later ≡ round = omega (arith, is_round) in
      subst (λ k. OpensRounds rules job edges first k round ys) same_t (subst (λ k. OpensRounds rules job edges first s k ys) same_round more)
  opens_then first t round (x ∷ []) ys s later is_t is_round opens more = absurd (omega (arith, is_round))
  opens_then first t round (x ∷ y ∷ xs) ys s later is_t is_round opens more =
      (opens.0, opens.1, opens_then first (t + 2) (round + 1) xs ys s later (omega (arith, is_t)) (omega (arith, is_round)) opens.2 more)

  -- the epochs of one round more
  pub are_then : (counts : Bool) (first round : ℕ) (xs ys : List Epoch) → 2 * round + (if counts then 1 else 0) ≡ 2 * first + length xs → AreEpochsOf rules job edges counts first xs → OpensRounds rules job edges first (length xs) round ys →
      AreEpochsOf rules job edges counts first (xs ++ ys)
  are_then false first round xs ys many are more = opens_then first 0 first xs ys (length xs) round (omega arith) (omega (arith, many)) are more
  are_then true first round [] ys many are more = absurd (omega (arith, many))
  are_then true first round (x ∷ xs) ys many are more = (are.0, opens_then first 1 first xs ys (length (x ∷ xs)) round (omega arith) (omega (arith, many)) are.1 more)

  pub of_round : (Scatters : Epoch → Type 0) (Gathers : Epoch → Epoch → Type 0) (first t round : ℕ) → ((x : Epoch) → Scatters x → OpensEdges rules job edges x) → ((x y : Epoch) → Gathers x y → OpensUpdates rules job edges (sends_changed rules job edges first round) t round x y) →
      (ys : List Epoch) → ForRound Scatters Gathers ys → OpensRounds rules job edges first t round ys
  of_round Scatters Gathers first t round opens gathers [] all = tt
  of_round Scatters Gathers first t round opens gathers (x ∷ []) all = opens x all
  of_round Scatters Gathers first t round opens gathers (x ∷ y ∷ []) all = (opens x all.0, gathers x y all.1, tt)
  of_round Scatters Gathers first t round opens gathers (x ∷ y ∷ z ∷ more) all = absurd all

  pub of_first : (Counts : Epoch → Type 0) (counts : Bool) (first : ℕ) → ((x : Epoch) → Counts x → OpensEdges rules job edges x) → (ys : List Epoch) → length ys ≤ (if counts then 1 else 0) → ForFirst Counts ys → AreEpochsOf rules job edges counts first ys
  of_first Counts false first opens [] few all = tt
  of_first Counts false first opens (x ∷ ys) few all = absurd (omega (arith, few))
  of_first Counts true first opens [] few all = tt
  of_first Counts true first opens (x ∷ []) few all = (opens x all, tt)
  of_first Counts true first opens (x ∷ y ∷ ys) few all = absurd (omega (arith, few))
