use Rattle.std.proofs.Common.{◌≡◌, ◌∙◌, ◌≤◌, ◌≢◌, ℕ, List, get_or, ap, inl, inr, subst, ◌<◌, ◌^◌, length, [], ◌∷◌, zero, suc, cond, true, false, Bool, refl, arith, get_or-set_other}
use Rattle.graph_model.specs.declared.value.Value.{Value}
use Rattle.graph_model.specs.Rounds.{differs}
use Rattle.std.proofs.lemmas.Bool.{cases_lt}
use mir.Val.{bool_byte}
use Rattle.checkpoint.proofs.ValueSteps.{next_more, changes_more}
use Rattle.checkpoint.proofs.values.next_values.Goals as goal

get_or_default : {X : Type 0} (xs : List X) (i : ℕ) (a b : X) → i < length xs → get_or xs i a ≡ get_or xs i b
get_or_default (x ∷ xs) zero a b below = refl
get_or_default (x ∷ xs) (suc i) a b below = get_or_default xs i a b (omega arith)
get_or_default [] i a b below = absurd (omega arith)

byte_of : (b : Bool) → bool_byte b ≡ cond b 1 0
byte_of true = refl
byte_of false = refl

byte_few : (b : Bool) → bool_byte b ≤ 1
byte_few true = omega arith
byte_few false = omega arith

pub loop-index-preserved : goal.loop-index-preserved
loop-index-preserved g c =
    let rules = g.P.VertexProgram.rules c.args.program.now in
    let none : Value = record { main = 0; side = 0 } in
    let i : ℕ = c.loop-index.index in
    let old : List Value = c.args.values.now in
    let same : get_or c.loop-index.values i none ≡ get_or old i none = c.loop-index.invariant.rest i none (omega arith) in
    record {
      front = next_more rules old c.loop-index.values c.args.sums.now i none c.next-next.result (omega arith) (omega (arith, c.requires)) (omega arith)
          c.loop-index.invariant.front (c.next-next.ensures ∙ ap (λ x. rules.next x (get_or c.args.sums.now i 0)) same);
      rest = λ k d behind.
          let other : k ≢ i = omega arith in
          get_or-set_other c.loop-index.values i k c.next-next.result d other ∙ c.loop-index.invariant.rest k d (omega arith);
      counted = changes_more old c.loop-index.values i none c.next-next.result c.loop-index.changed c.from-changed.result (omega arith) (omega arith)
          c.loop-index.invariant.counted (c.from-changed.ensures ∙ byte_of c.differs.result ∙ ap (λ b. cond b 1 0) (c.differs.ensures.answer ∙ ap (λ x. differs x c.next-next.result) same));
      few = omega (arith, c.from-changed.ensures, byte_few c.differs.result);
      fit = λ k d below.
          elim (cases_lt k i) [
            | inl before ↦ c.loop-index.invariant.fit k d before
            | inr from ↦
                let here : i ≡ k = omega arith in
                let value : get_or c.loop-index.values i none ≡ get_or old k d =
                same ∙ get_or_default old i none d (omega arith) ∙ ap (λ (j : ℕ). get_or old j d) here in
                subst (λ (x : Value). (x.main < 2 ^ 64) × (x.side < 2 ^ 64)) value c.differs.ensures.fits
          ];
    }
