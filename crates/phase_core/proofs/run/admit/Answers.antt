-- Help that is admitted raises the helper count and is noted.
use Rattle.std.proofs.Common.{◌≡◌, ℕ, suc, ◌+◌, ◌*◌, ◌<◌, ◌∙◌, sym, ap, subst, length, get_or, true, false, arith}
use Rattle.std.proofs.lemmas.Grind.{get_or_default_zero}
use Rattle.chunk_object.specs.Object.{put_at}
use Rattle.phase_core.specs.View.{machine_of}
use Rattle.phase_core.proofs.Tables.{written, entry-written, in_table}
use Rattle.phase_core.proofs.Steps.{admit_bounds, admitted_now}
use Rattle.phase_core.proofs.run.admit.Goals as goal

pub returns-clause-after : goal.returns-clause-after
returns-clause-after c rules =
    let heads = c.args.core.now.heads.items in
    let w : ℕ = c.args.worker in
    let p : ℕ = c.args.partition in
    let timely = sym c.may_admit.ensures ∙ c.if-not-may_admit.false in
    let bounds = admit_bounds (machine_of c.args.core.now) w p c.args.seen timely in
    let below : p < length heads = subst (λ k. p < k) (sym c.args.core.now.heads_long) bounds.1 in
    let found : get_or heads p 0 ≡ c.args.seen = sym (c.index-heads.ensures ∙ get_or_default_zero heads p c.index-heads.result.now below) ∙ c.if-heads-seen.false in
    let more : c.index-heads.result.now + 1 ≡ suc c.args.seen = omega (arith, c.if-heads-seen.false) in
    let small : p < 64 = omega (arith, bounds.1, c.args.core.now.split_is.few) in
    let inside : 64 * w + p < length c.args.core.now.admitted.items = subst (λ k. 64 * w + p < k) (sym c.args.core.now.admitted_long) (in_table 64 w c.args.core.now.split.engines p small bounds.0) in
    admitted_now rules (machine_of c.args.core.now) w p c.args.seen _ _ timely found
    (written heads p (c.index-heads.result.now + 1) 0 below ∙ ap (λ k. put_at p k (λ i. get_or heads i 0)) more)
    (entry-written 64 false c.args.core.now.admitted.items w p true small inside)
