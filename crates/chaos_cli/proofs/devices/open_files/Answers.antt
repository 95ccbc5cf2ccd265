use Rattle.std.proofs.Common.{◌≡◌, ◌∙◌, ◌+◌, ◌≤◌, [], ◌∷◌, length, ap, sym, subst, arith, length-append}
use Rattle.std.specs.List.{All}
use Rattle.std.proofs.lemmas.List.Elements.{All-append, All-cons, All-nil}
use Rattle.real_devices.specs.FileState.{FileState, untold}
use Rattle.chaos_cli.specs.Files.{AreNumbered}
use Rattle.chaos_cli.proofs.Numbers.{numbered_more}
use Rattle.chaos_cli.proofs.devices.open_files.Goals as goal

pub engines-preserved : goal.engines-preserved
engines-preserved g c =
    let files = c.engines.disks.items in
    let file = c.in_ok-disk.disk in
    let Unwritten = λ (f : FileState). (untold f).beat ≤ 0 in
    let before = c.engines.invariant in
    let count = before.0 in
    let long = ap length c.in_ok-put.ensures in
    let more = length-append files (file ∷ []) in
    let beat = ap (λ (f : FileState). f.beat) c.in_ok-disk.ensures in
    let number : file.number ≡ c.args.first + length files = ap (λ (f : FileState). f.number) c.in_ok-disk.ensures ∙ ap (λ k. c.args.first + k) (sym count) in (
      omega (arith, long, more, count),
      subst (All Unwritten) (sym c.in_ok-put.ensures) (All-append Unwritten files (file ∷ []) before.1 (All-cons Unwritten file [] (omega (arith, beat)) (All-nil Unwritten))),
      subst (AreNumbered c.args.first) (sym c.in_ok-put.ensures) (numbered_more c.args.first files file before.2 number),
    )
