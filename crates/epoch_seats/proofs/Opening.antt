-- The calls of the first seat that open an epoch.
use Rattle.std.proofs.Common.{◌≡◌, ℕ, ◌+◌, List, [], ◌∷◌, ◌++◌, map, ap, sym, ◌∙◌, arith}
use Rattle.std.specs.List.{flat_map, range_with_len}
use Rattle.std.proofs.lemmas.List.{append-nil}
use Rattle.std.proofs.lemmas.List.FromFn.{map-range_with_len_more}
use Rattle.std.proofs.lemmas.Grind.{flat_map-append}
use Rattle.chunk_object.specs.declared.call.Call.{Call}
use Rattle.chunk_object.specs.declared.call.Call.TheVariants.{Greet}
use Rattle.chunk_object.specs.Epochs.{Terms, entry_of, first_entries, opens_of, greets_of}
use Rattle.chunk_cursor.specs.declared.view.View.{View}
use Rattle.chunk_cursor.specs.View.{with_call, with_calls, IsFirst, IsAlone}
use Rattle.chunk_cursor.proofs.Knowing.{with_calls-none, with_calls-append}
use Rattle.graph_model.proofs.ListLemmas.{range_with_len-more}
use Rattle.epoch_seats.specs.Opening.{openings}

pub no_calls : (v : View) → v ≡ with_calls v []
no_calls v = sym (with_calls-none v)

pub alone_still : (v : View) (calls : List Call) → IsAlone v → IsAlone (with_calls v calls)
alone_still v calls alone = record { first = alone.first; none_out = alone.none_out }

-- one call more of a row of calls
pub row_more : (f : ℕ → Call) (n : ℕ) (v u w : View) → u ≡ with_calls v (map f (range_with_len 0 n)) → w ≡ with_call u (f n) → w ≡ with_calls v (map f (range_with_len 0 (n + 1)))
row_more f n v u w so_far next =
    next
    ∙ (ap (λ x. with_call x (f n)) so_far
    ∙ (with_calls-append v (map f (range_with_len 0 n)) (f n ∷ []) ∙ ap (with_calls v) (sym (map-range_with_len_more f 0 n n (omega arith)))))

-- one row more of several
pub rows_more : (f : ℕ → List Call) (n : ℕ) (v u w : View) → u ≡ with_calls v (flat_map f (range_with_len 0 n)) → w ≡ with_calls u (f n) → w ≡ with_calls v (flat_map f (range_with_len 0 (n + 1)))
rows_more f n v u w so_far next =
    next
    ∙ (ap (λ x. with_calls x (f n)) so_far
    ∙ (with_calls-append v (flat_map f (range_with_len 0 n)) (f n)
    ∙ ap (with_calls v) (sym (ap (flat_map f) (range_with_len-more n) ∙ (flat_map-append f (range_with_len 0 n) (n ∷ []) ∙ ap (λ l. flat_map f (range_with_len 0 n) ++ l) (append-nil (f n)))))))

-- the calls of the first seat, as its story has them
pub first_story : (v : View) → IsFirst v → (calls : List Call) → (with_calls v calls).story ≡ v.story ++ first_entries calls
first_story v first calls = ap (λ serial. v.story ++ map (entry_of serial v.worker) calls) first.0 ∙ ap (λ worker. v.story ++ map (entry_of 0 worker) calls) first.1

-- all that stands before the splits, in words of the terms
pub front_of : (terms : Terms) (lens : ℕ → ℕ) (engines partitions : ℕ) → engines ≡ terms.engines → partitions ≡ terms.partitions
    → (v u w : View) → u ≡ with_calls v (openings partitions lens engines) → w ≡ with_calls u (map Greet (range_with_len 0 partitions)) → w ≡ with_calls (with_calls v (opens_of terms lens)) (greets_of terms)
front_of terms lens engines partitions all_engines all_partitions v u w opened greeted =
    greeted
    ∙ (ap (λ x. with_calls x (map Greet (range_with_len 0 partitions))) opened
    ∙ (ap (λ n. with_calls (with_calls v (openings n lens engines)) (map Greet (range_with_len 0 n))) all_partitions
    ∙ ap (λ n. with_calls (with_calls v (openings terms.partitions lens n)) (greets_of terms)) all_engines))
