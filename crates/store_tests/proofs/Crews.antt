-- Three workers.
use Rattle.std.proofs.Common.{ℕ, zero, suc, ◌<◌, [], ◌∷◌, get_or, arith}

pub three : {X Y : Type 0} (P : X → Y → Type 0) (a b c : X) (x y z : Y) → P a x → P b y → P c z → (w : ℕ) (r : X) (d : Y) → w < 3 → P (get_or (a ∷ b ∷ c ∷ []) w r) (get_or (x ∷ y ∷ z ∷ []) w d)
three P a b c x y z p q s zero r d below = p
three P a b c x y z p q s (suc zero) r d below = q
three P a b c x y z p q s (suc (suc zero)) r d below = s
three P a b c x y z p q s (suc (suc (suc w))) r d below = absurd (omega arith)
