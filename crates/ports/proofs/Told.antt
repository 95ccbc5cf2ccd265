-- Relations between what is told before and after.
use Rattle.std.proofs.Common.{◌≡◌, ℕ, List, Option, Some, None, IfSome, length, Result, Ok, Err, OnOk, refl, subst}
use Rattle.ports.specs.Disk.{DiskState, IsDisk, IsSettled, InEveryImage, Changes, After}
use Rattle.ports.specs.Told.{AsTold}

pub as_told_same : (P : List ℕ → List ℕ → Type 0) → ((a : List ℕ) → P a a) → (x : Option (List ℕ)) → AsTold P x x
as_told_same P p (Some a) = p a
as_told_same P p None = tt

-- two steps in a row
pub as_told_then : (P Q R : List ℕ → List ℕ → Type 0) → ((a b c : List ℕ) → P a b → Q b c → R a c) → (x y z : Option (List ℕ)) → AsTold P x y → AsTold Q y z → AsTold R x z
as_told_then P Q R f (Some a) (Some b) (Some c) p q = f a b c p q
as_told_then P Q R f (Some a) (Some b) None p q = absurd q
as_told_then P Q R f (Some a) None z p q = absurd p
as_told_then P Q R f None (Some b) z p q = absurd p
as_told_then P Q R f None None (Some c) p q = absurd q
as_told_then P Q R f None None None p q = tt

pub as_told_weaker : (P Q : List ℕ → List ℕ → Type 0) → ((a b : List ℕ) → P a b → Q a b) → (x y : Option (List ℕ)) → AsTold P x y → AsTold Q x y
as_told_weaker P Q f (Some a) (Some b) p = f a b p
as_told_weaker P Q f (Some a) None p = absurd p
as_told_weaker P Q f None (Some b) p = absurd p
as_told_weaker P Q f None None p = tt

-- what is told after, from what was told before
pub as_told_from : (P : List ℕ → List ℕ → Type 0) (x : Option (List ℕ)) (c : List ℕ) → AsTold P x (Some c) → (b : List ℕ) × (x ≡ Some b) × P b c
as_told_from P (Some b) c p = (b, refl, p)
as_told_from P None c p = absurd p

-- and the other way round
pub as_told_to : (P : List ℕ → List ℕ → Type 0) (b : List ℕ) (y : Option (List ℕ)) → AsTold P (Some b) y → (c : List ℕ) × (y ≡ Some c) × P b c
as_told_to P b (Some c) p = (c, refl, p)
as_told_to P b None p = absurd p

-- what told its bytes still does
pub told_on : (P : List ℕ → List ℕ → Type 0) (x y : Option (List ℕ)) → AsTold P x y → (b : List ℕ) → x ≡ Some b → (c : List ℕ) × (y ≡ Some c)
told_on P x y told b is = let now = as_told_to P b y (subst (λ (z : Option (List ℕ)). AsTold P z y) is told) in (now.0, now.1)

-- what is true of the bytes of a settled disk is true of its images
pub settled_has : (disk : DiskState) (P : List ℕ → Type 0) → IsSettled disk → IfSome disk.bytes P → InEveryImage disk P
settled_has disk P settled holds c image = subst (λ (told : Option (List ℕ)). IfSome told P) (settled c image) holds

-- and so is what follows from the bytes before a call
pub settled_from : (old new : DiskState) (P : List ℕ → List ℕ → Type 0) → IsSettled new → AsTold P old.bytes new.bytes → InEveryImage new (λ c. (b : List ℕ) × (old.bytes ≡ Some b) × P b c)
settled_from old new P settled told c image =
    as_told_from P old.bytes c (subst (λ (now : Option (List ℕ)). AsTold P old.bytes now) (settled c image) told)

-- the bytes of a disk are an image of it, and their number is its size
pub present_at : (disk : DiskState) (b : List ℕ) → IsDisk disk → disk.bytes ≡ Some b → disk.images b
present_at disk b law told = subst (λ (x : Option (List ℕ)). IfSome x disk.images) told law.present

pub sized_at : (disk : DiskState) (b : List ℕ) → IsDisk disk → disk.bytes ≡ Some b → disk.size ≡ length b
sized_at disk b law told = subst (λ (x : Option (List ℕ)). IfSome x (λ bytes. disk.size ≡ length bytes)) told law.sized

-- each image of a settled disk has its size
pub length-settled : (disk : DiskState) → IsDisk disk → IsSettled disk → InEveryImage disk (λ c. disk.size ≡ length c)
length-settled disk law settled c image = sized_at disk c law (settled c image)

told_after_of : (x y : Option (List ℕ)) (size : ℕ) (P : List ℕ → Type 0) (R : List ℕ → List ℕ → Type 0) (Q : List ℕ → Type 0) → IfSome x (λ bytes. size ≡ length bytes) → IfSome x P → AsTold R x y → ((a b : List ℕ) → size ≡ length a → P a → R a b → Q b) → IfSome y Q
told_after_of (Some a) (Some b) size P R Q sized before told follows = follows a b sized before told
told_after_of (Some a) None size P R Q sized before told follows = tt
told_after_of None (Some b) size P R Q sized before told follows = absurd told
told_after_of None None size P R Q sized before told follows = tt

-- what a read gives, after a call that told what it did
pub told_after : (old new : DiskState) (P : List ℕ → Type 0) (R : List ℕ → List ℕ → Type 0) (Q : List ℕ → Type 0) → IsDisk old → IfSome old.bytes P → AsTold R old.bytes new.bytes → ((a b : List ℕ) → old.size ≡ length a → P a → R a b → Q b) → IfSome new.bytes Q
told_after old new P R Q law before told follows = told_after_of old.bytes new.bytes old.size P R Q law.sized before told follows

-- two clauses on one answer give a third
pub on_ok_two : {T E P Q R : Type 0} (r : Result T E) → (P → Q → R) → OnOk r P → OnOk r Q → OnOk r R
on_ok_two (Ok x) f p q = f p q
on_ok_two (Err e) f p q = tt

pub changes_weaker : (number : ℕ) (P Q : List ℕ → List ℕ → Type 0) (old new : DiskState) → ((a b : List ℕ) → P a b → Q a b) → Changes number P old new → Changes number Q old new
changes_weaker number P Q old new f changes = record {
  bytes = as_told_weaker P Q f old.bytes new.bytes changes.bytes;
  images = λ c image. let after : After P old c = changes.images c image in (after.0, after.1, f after.0 c after.2);
  beat = changes.beat;
  later = changes.later;
  unmoved = changes.unmoved;
  since = changes.since;
  keeps = changes.keeps;
}
