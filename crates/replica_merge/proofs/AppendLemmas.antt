-- Several writes at the end of a disk, as one.
use Rattle.std.proofs.Common.{◌≡◌, ℕ, ◌+◌, ◌<◌, ◌≤◌, List, [], ◌++◌, length, Option, Some, None, IfSome, Result, Ok, Err, IsErr, inl, inr, refl, sym, ◌∙◌, ap, subst, arith, length-append, append_assoc}
use Rattle.std.proofs.lemmas.List.{append-nil}
use Rattle.ports.specs.Bytes.{Torn, after_write}
use Rattle.ports.specs.Disk.{DiskState, IsDisk, After, Writes}
use Rattle.ports.specs.Stops.{Leaves}
use Rattle.ports.specs.Told.{AsTold}
use Rattle.ports.proofs.Parts.{torn_same, after_write-end}
use Rattle.ports.proofs.Stops.{started, in_part, joined, weaker, leaves_now}
use Rattle.ports.proofs.Told.{as_told_same, as_told_then, as_told_weaker}
use Rattle.replica_merge.specs.Appending.{HasAppended}

-- a write in part, and one behind it in part
pub torn_then : (at m n : ℕ) (a b c : List ℕ) → Torn at m a b → Torn (at + m) n b c → Torn at (m + n) a c
torn_then at m n a b c first next = record {
  no_shorter = omega (arith, first.no_shorter, next.no_shorter);
  no_longer = omega (arith, first.no_longer, next.no_longer);
  stays = λ i within outside.
      let there : i < length b = omega (arith, first.no_shorter) in
      elim outside [
        | inl before ↦ next.stays i there (inl (omega arith)) ∙ first.stays i within (inl before)
        | inr behind ↦ next.stays i there (inr (omega arith)) ∙ first.stays i within (inr (omega arith))
      ];
}

-- and within a longer one
pub torn_longer : (at m n : ℕ) (a b : List ℕ) → m ≤ n → Torn at m a b → Torn at n a b
torn_longer at m n a b more torn = record {
  no_shorter = torn.no_shorter;
  no_longer = omega (arith, torn.no_longer);
  stays = λ i within outside. torn.stays i within (elim outside [ inl before ↦ inl before | inr behind ↦ inr (omega arith) ]);
}

-- nothing appended
pub appended_none : {T E : Type 0} (number : ℕ) (disk : DiskState) (x : T) → IsDisk disk → disk.beat ≤ number →
    HasAppended {T = T} {E = E} number [] disk disk (Ok x)
appended_none number disk x law beat = record {
  any_moment = started number disk (After (Torn disk.size 0) disk) law (λ c image. (c, image, torn_same disk.size 0 c));
  bytes = as_told_same (Torn disk.size 0) (torn_same disk.size 0) disk.bytes;
  appended = as_told_same (λ before now. now ≡ before ++ []) (λ a. sym (append-nil a)) disk.bytes;
  grown = omega arith;
  no_shorter = omega arith;
  no_longer = omega arith;
  beat = beat;
  cause = record { later = omega arith; failed = tt; calm = refl };
}

told_append : (size : ℕ) (piece : List ℕ) (x y : Option (List ℕ)) → IfSome x (λ bytes. size ≡ length bytes) →
    AsTold (λ before now. now ≡ after_write size piece before) x y → AsTold (λ before now. now ≡ before ++ piece) x y
told_append size piece (Some a) (Some b) sized told = told ∙ after_write-end size piece a sized
told_append size piece (Some a) None sized told = absurd told
told_append size piece None (Some b) sized told = absurd told
told_append size piece None None sized told = tt

-- one write at the end
pub appended_by_one : {T E : Type 0} (number : ℕ) (piece : List ℕ) (old new : DiskState) (result : Result T E) → IsDisk old →
    Writes number old.size piece old new result → HasAppended number piece old new result
appended_by_one number piece old new (Ok x) law writes = record {
  any_moment = in_part number old new (Torn old.size (length piece)) law (torn_same old.size (length piece)) writes.changes;
  bytes = writes.changes.bytes;
  appended = told_append old.size piece old.bytes new.bytes law.sized writes.written;
  grown = omega (arith, writes.grown);
  no_shorter = writes.no_shorter;
  no_longer = omega (arith, writes.no_longer);
  beat = omega (arith, writes.changes.beat);
  cause = writes.cause;
}
appended_by_one number piece old new (Err e) law writes = record {
  any_moment = in_part number old new (Torn old.size (length piece)) law (torn_same old.size (length piece)) writes.changes;
  bytes = writes.changes.bytes;
  appended = tt;
  grown = tt;
  no_shorter = writes.no_shorter;
  no_longer = omega (arith, writes.no_longer);
  beat = omega (arith, writes.changes.beat);
  cause = writes.cause;
}

module _ {T E : Type 0} (number : ℕ) (a b : List ℕ) (old mid new : DiskState) (x : T) where
  -- what a stop leaves of both
  then_any_moment : (result : Result T E) → IsDisk mid → HasAppended {T = T} {E = E} number a old mid (Ok x) → HasAppended number b mid new result →
      Leaves number old new (After (Torn old.size (length (a ++ b))) old)
  then_any_moment result law first next =
      let long : length (a ++ b) ≡ length a + length b = length-append a b in
      let Whole : List ℕ → Type 0 = After (Torn old.size (length (a ++ b))) old in
      let wider : Leaves number old mid Whole =
      weaker number old mid (After (Torn old.size (length a)) old) Whole first.any_moment
      (λ c after. (after.0, after.1, torn_longer old.size (length a) (length (a ++ b)) after.0 c (omega (arith, long)) after.2)) in
      joined number old mid new Whole (After (Torn mid.size (length b)) mid) wider next.any_moment
      (λ c after.
      let before : After (Torn old.size (length a)) old after.0 =
      leaves_now number old mid (After (Torn old.size (length a)) old) law first.any_moment after.0 after.1 in
      let behind : Torn (old.size + length a) (length b) after.0 c = subst (λ (at : ℕ). Torn at (length b) after.0 c) first.grown after.2 in
      (before.0, before.1, subst (λ (n : ℕ). Torn old.size n before.0 c) (sym long) (torn_then old.size (length a) (length b) before.0 after.0 c before.2 behind)))

  then_bytes : (result : Result T E) → HasAppended {T = T} {E = E} number a old mid (Ok x) → HasAppended number b mid new result →
      AsTold (Torn old.size (length (a ++ b))) old.bytes new.bytes
  then_bytes result first next =
      as_told_then (Torn old.size (length a)) (Torn mid.size (length b)) (Torn old.size (length (a ++ b)))
      (λ p q r before behind.
      subst (λ (n : ℕ). Torn old.size n p r) (sym (length-append a b))
      (torn_then old.size (length a) (length b) p q r before (subst (λ (at : ℕ). Torn at (length b) q r) first.grown behind)))
      old.bytes mid.bytes new.bytes first.bytes next.bytes

  -- a piece, and then one behind it
  pub appended_then : (result : Result T E) → IsDisk mid → HasAppended {T = T} {E = E} number a old mid (Ok x) → HasAppended number b mid new result →
      HasAppended number (a ++ b) old new result
  appended_then (Ok y) law first next = record {
    any_moment = then_any_moment (Ok y) law first next;
    bytes = then_bytes (Ok y) first next;
    appended = as_told_then (λ before now. now ≡ before ++ a) (λ before now. now ≡ before ++ b) (λ before now. now ≡ before ++ (a ++ b))
        (λ p q r e f. f ∙ ap (λ front. front ++ b) e ∙ append_assoc p a b)
        old.bytes mid.bytes new.bytes first.appended next.appended;
    grown = omega (arith, first.grown, next.grown, length-append a b);
    no_shorter = omega (arith, first.no_shorter, next.no_shorter);
    no_longer = omega (arith, first.grown, next.no_longer, length-append a b);
    beat = next.beat;
    cause = record { later = omega (arith, first.cause.later, next.cause.later); failed = tt; calm = next.cause.calm ∙ first.cause.calm };
  }
  appended_then (Err e) law first next = record {
    any_moment = then_any_moment (Err e) law first next;
    bytes = then_bytes (Err e) first next;
    appended = tt;
    grown = tt;
    no_shorter = omega (arith, first.no_shorter, next.no_shorter);
    no_longer = omega (arith, first.grown, next.no_longer, length-append a b);
    beat = next.beat;
    cause = record { later = omega (arith, first.cause.later, next.cause.later); failed = omega (arith, first.cause.later, next.cause.failed); calm = tt };
  }

-- a failure within a front of a piece is one within the piece
pub appended_in_part : {T E : Type 0} (number : ℕ) (front piece : List ℕ) (old new : DiskState) (e : E) (result : Result T E) → length front ≤ length piece → IsErr result →
    HasAppended {T = T} {E = E} number front old new (Err e) → HasAppended {T = T} {E = E} number piece old new result
appended_in_part number front piece old new e (Ok x) within failed part = let none : ⊥ = cc in absurd none
appended_in_part number front piece old new e (Err f) within failed part = record {
  any_moment = weaker number old new (After (Torn old.size (length front)) old) (After (Torn old.size (length piece)) old) part.any_moment
      (λ c after. (after.0, after.1, torn_longer old.size (length front) (length piece) after.0 c within after.2));
  bytes = as_told_weaker (Torn old.size (length front)) (Torn old.size (length piece))
      (λ a b. torn_longer old.size (length front) (length piece) a b within) old.bytes new.bytes part.bytes;
  appended = tt;
  grown = tt;
  no_shorter = part.no_shorter;
  no_longer = omega (arith, part.no_longer);
  beat = part.beat;
  cause = record { later = part.cause.later; failed = part.cause.failed; calm = tt };
}
