-- The definitions on worked examples, by hand: what is legal and ordered, what is not, and what is counted.
use Rattle.std.proofs.Common.{◌≡◌, ◌≢◌, ℕ, zero, suc, ◌%◌, ◌<◌, true, false, List, [], ◌∷◌, ◌++◌, refl, arith}
use Rattle.std.specs.List.{filter}
use Rattle.std.proofs.lemmas.List.Elements.{All-from_recursion}
use Rattle.chunk_object.specs.declared.call.Call.{Call}
use Rattle.chunk_object.specs.declared.call.Call.TheVariants.{Open, Greet, Took, Exhausted, Look, Heads, Admitted, Contended, Split, Join}
use Rattle.chunk_object.specs.declared.call.Entry.{Entry}
use Rattle.chunk_object.specs.History.{unborn, living, IsLegal, IsOrdered, object_after, entries_of, refusals, refusals_of, admissions_of, times_taken, taken_by, opened_len, epoch_of, engine_count, engines_at_greet}
use Rattle.chunk_object.specs.Epochs.{cursor_of, Terms, Epoch, entry_of, epoch_entries}
use Rattle.chunk_object.specs.Duty.{partition_of, is_on, claims_at, IsClaim, EndsExhausted, ClaimsToTheEnd, Accepts, FollowsHeads, Helps, IsMaster, IsDutiful}

abbrev first : Call → Entry
first = entry_of 0 8

-- Three chunks and two workers: they take one after another, and the last claim finds none.
abbrev shared : List Entry
shared =
    first (Open 0 3)
    ∷ first (Open 1 0)
    ∷ first (Split 1 0)
    ∷ first (Split 2 1)
    ∷ entry_of 1 0 (Took 0 0)
    ∷ entry_of 2 1 (Took 0 1)
    ∷ entry_of 1 0 (Look 0 1)
    ∷ entry_of 1 0 (Took 0 2)
    ∷ entry_of 2 1 (Exhausted 0)
    ∷ entry_of 2 1 (Exhausted 1)
    ∷ first (Join 2 1)
    ∷ first (Join 1 0)
    ∷ []

shared_is_legal : IsLegal shared
shared_is_legal = (tt, (tt, (tt, (tt, ((refl, omega arith), ((refl, omega arith), (refl, ((refl, omega arith), (omega arith, (omega arith, (tt, (tt, tt))))))))))))

shared_is_ordered : IsOrdered shared
shared_is_ordered =
    let none : 0 ≢ 0 → unborn ≡ living = λ ne. absurd (ne refl) in
    ((none, tt), ((none, tt), ((none, refl), ((none, refl), ((λ ne. refl, tt), ((λ ne. refl, tt), ((λ ne. refl, tt), ((λ ne. refl, tt), ((λ ne. refl, tt), ((λ ne. refl, tt), ((λ ne. absurd (ne refl), refl), ((λ ne. absurd (ne refl), refl), tt))))))))))))

-- the counts of it
chunk_two_was_taken : times_taken 0 2 shared ≡ 1
chunk_two_was_taken = refl

no_chunk_three : times_taken 0 3 shared ≡ 0
no_chunk_three = refl

one_refusal : refusals 0 shared ≡ 1
one_refusal = refl

none_of_worker_zero : refusals_of 0 0 shared ≡ 0
none_of_worker_zero = refl

two_for_worker_zero : taken_by 0 0 shared ≡ 2
two_for_worker_zero = refl

three_were_opened : opened_len 0 shared ≡ 3
three_were_opened = refl

-- the cursor opened anew counts from 0
opened_anew : times_taken 0 2 (shared ++ first (Open 0 5) ∷ []) ≡ 0
opened_anew = refl

list_of_one : entries_of 1 shared ≡ entry_of 1 0 (Took 0 0) ∷ entry_of 1 0 (Look 0 1) ∷ entry_of 1 0 (Took 0 2) ∷ []
list_of_one = refl

-- What is not legal: a chunk given twice, a refusal while chunks are left, a look that always finds the length, a chunk of an empty cursor
not_twice : IsLegal (first (Open 0 3) ∷ first (Took 0 0) ∷ first (Took 0 0) ∷ []) → ⊥
not_twice legal = omega (arith, legal.1.1.0.0)

not_refused : IsLegal (first (Open 0 3) ∷ first (Took 0 0) ∷ first (Exhausted 0) ∷ []) → ⊥
not_refused legal = omega (arith, legal.1.1.0)

not_the_length : IsLegal (first (Open 0 3) ∷ first (Took 0 0) ∷ first (Look 0 3) ∷ []) → ⊥
not_the_length legal = omega (arith, legal.1.1.0)

not_of_none : IsLegal (first (Took 0 0) ∷ []) → ⊥
not_of_none legal = omega (arith, legal.0.1)

-- Helpers: the count is 1 with the master alone, and an admit that asks for another count is told which it is
abbrev helped : List Entry
helped = first (Greet 5) ∷ entry_of 1 0 (Heads 5 1) ∷ entry_of 1 0 (Admitted 5 1) ∷ entry_of 2 1 (Contended 5 1 2) ∷ entry_of 2 1 (Admitted 5 2) ∷ []

helped_is_legal : IsLegal helped
helped_is_legal = (tt, (refl, (refl, ((refl, λ e. omega (arith, e)), (refl, tt)))))

three_work : (object_after helped).heads 5 ≡ 3
three_work = refl

one_admission : admissions_of 1 5 helped ≡ 1
one_admission = refl

not_contended : IsLegal (first (Greet 5) ∷ entry_of 1 0 (Contended 5 1 1) ∷ []) → ⊥
not_contended legal = legal.1.0.1 refl

-- What is not ordered: a call before its caller's split, a call after its join, a second split of one number
not_before : IsOrdered (entry_of 1 0 (Look 0 0) ∷ first (Split 1 0) ∷ []) → ⊥
not_before ordered = cc (ordered.0.0 (λ e. omega (arith, e)))

not_behind : IsOrdered (first (Split 1 0) ∷ first (Join 1 0) ∷ entry_of 1 0 (Look 0 0) ∷ []) → ⊥
not_behind ordered = cc (ordered.1.1.0.0 (λ e. omega (arith, e)))

not_again : IsOrdered (first (Split 1 0) ∷ first (Split 1 2) ∷ []) → ⊥
not_again ordered = cc (ordered.1.0.1)

-- An epoch of two engines, and the next one of three
abbrev two_engines : List Entry
two_engines = first (Open 0 4) ∷ first (Open 64 4) ∷ first (Open 65 4) ∷ first (Greet 0) ∷ first (Greet 1) ∷ first (Split 1 0) ∷ first (Join 1 0) ∷ []

abbrev then_three : List Entry
then_three = two_engines ++ first (Open 0 4) ∷ first (Open 64 4) ∷ first (Open 128 4) ∷ first (Greet 1) ∷ []

engines_of_the_first : engine_count (epoch_of two_engines) ≡ 2
engines_of_the_first = refl

engines_of_the_next : engine_count (epoch_of then_three) ≡ 3
engines_of_the_next = refl

greeted_then : (epoch_of then_three).greeted 0 ≡ false
greeted_then = refl

greeted_now : (epoch_of then_three).greeted 1 ≡ true
greeted_now = refl

engines_when_greeted : engines_at_greet (epoch_of then_three) 0 ≡ 2
engines_when_greeted = refl

-- The entries of an epoch of one engine and one partition, in which the worker takes the only chunk
abbrev small : Terms
small = record { engines = 1; partitions = 1; set_bytes = λ partition. 16; chunk_bytes = 20; alpha = 100 }

abbrev one_chunk : Epoch
one_chunk = record { lens = λ cursor. 1; lists = (Took 0 0 ∷ Exhausted 0 ∷ []) ∷ [] }

entries_of_one_chunk : epoch_entries small 2 one_chunk ≡ first (Open 0 1) ∷ first (Greet 0) ∷ first (Split 3 0) ∷ entry_of 3 0 (Took 0 0) ∷ entry_of 3 0 (Exhausted 0) ∷ first (Join 3 0) ∷ []
entries_of_one_chunk = refl

-- The duty with two engines and two partitions, of which the worker 0 has the first: it claims there on both engines to the end, and then proposes help with the other, where 2 and 0 chunks are left
abbrev two_by_two : Terms
two_by_two = record { engines = 2; partitions = 2; set_bytes = λ partition. 100; chunk_bytes = 20; alpha = 100 }

abbrev own_calls : List Call
own_calls = Took 0 0 ∷ Exhausted 64 ∷ Exhausted 0 ∷ []

-- 40 bytes are unread: the cost of help is 100 * (100 * 1 * 2 + 40 * 1), and the gain 100 * 40 * 2
abbrev asked_calls : List Call
asked_calls = Look 1 2 ∷ Look 65 0 ∷ Heads 1 1 ∷ []

abbrev dutiful_calls : List Call
dutiful_calls = own_calls ++ asked_calls

own_to_the_end : (partition : ℕ) → partition < 2 → partition % 2 ≡ 0 → ClaimsToTheEnd 2 partition (filter (is_on partition) dutiful_calls)
own_to_the_end zero below master = record {
  claims = All-from_recursion (IsClaim 2) own_calls (omega arith, (omega arith, (omega arith, tt)));
  each = λ engine some. at_engine engine some;
}
  where
    at_engine : (engine : ℕ) → engine < 2 → EndsExhausted (filter (claims_at (cursor_of engine 0)) own_calls)
    at_engine zero some = tt
    at_engine (suc zero) some = tt
    at_engine (suc (suc engine)) some = absurd (omega arith)
own_to_the_end (suc zero) below master = absurd (omega (arith, master))
own_to_the_end (suc (suc partition)) below master = absurd (omega arith)

other_asked : (partition : ℕ) → partition < 2 → (partition % 2 ≡ 0 → ⊥) → Helps two_by_two partition (filter (is_on partition) dutiful_calls)
other_asked zero below other = absurd (other refl)
other_asked (suc zero) below other = record { looks = 2 ∷ 0 ∷ []; heads = 1; rest = []; each = refl; bounds = (omega arith, omega arith); is = refl; follows = λ pays. omega (arith, pays) }
other_asked (suc (suc partition)) below other = absurd (omega arith)

is_dutiful : IsDutiful two_by_two 0 dutiful_calls
is_dutiful = record {
  own = own_calls;
  others = asked_calls;
  is = refl;
  on_own = All-from_recursion (λ call. (partition_of call < 2) × IsMaster two_by_two 0 (partition_of call)) own_calls ((omega arith, refl), ((omega arith, refl), ((omega arith, refl), tt)));
  on_others = All-from_recursion (λ call. (partition_of call < 2) × (IsMaster two_by_two 0 (partition_of call) → ⊥)) asked_calls ((omega arith, λ e. omega (arith, e)), ((omega arith, λ e. omega (arith, e)), ((omega arith, λ e. omega (arith, e)), tt)));
  master = own_to_the_end;
  helper = other_asked;
}

-- a claim behind the refusal, a cursor that is left before it, and help that is not tried where it pays
not_behind_refusal : EndsExhausted (Exhausted 0 ∷ Took 0 0 ∷ []) → ⊥
not_behind_refusal ends = ends

not_left : EndsExhausted (Took 0 0 ∷ Took 0 1 ∷ []) → ⊥
not_left ends = ends

not_idle : FollowsHeads two_by_two 1 1000 1 [] → ⊥
not_idle follows = follows (omega arith)

-- a tie is refused
no_tie : Accepts 500 1000 1 100 → ⊥
no_tie pays = omega (arith, pays)
