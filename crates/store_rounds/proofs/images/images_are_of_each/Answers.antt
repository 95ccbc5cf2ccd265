-- By places, and with another image of one device.
use Rattle.store_rounds.proofs.Places.{have_images, are_images, settled_as}
use Rattle.store_rounds.proofs.images.images_are_of_each.Goals as goal

pub returns-clause-each : goal.returns-clause-each
returns-clause-each g c devices images = (have_images g.D.Disk.state devices images, λ have. are_images g.D.Disk.state devices images have.many have.each)

pub returns-clause-settled : goal.returns-clause-settled
returns-clause-settled g c devices told tell only =
    settled_as g.D.Disk.state (λ d. (g.met.D.Disk g.world.𝓛 g.world.𝓜 g.world.𝓡 ((λ s x. x), (λ x. x), (λ x. x), λ x. x)).lawful d) devices told tell only
