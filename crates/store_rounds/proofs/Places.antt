-- Devices in their places: images of each, and a stop of several as one of each.
use Rattle.std.proofs.Common.{◌≡◌, ℕ, zero, suc, ◌<◌, List, [], ◌∷◌, length, map, get_or, refl, sym, ◌∙◌, ap, subst, arith}
use Rattle.ports.specs.Disk.{DiskState, IsDisk}
use Rattle.ports.specs.Stops.{IsStop, AreImages}
use Rattle.ports.proofs.Told.{present_at}
use Rattle.ports.proofs.Stops.{each_image_at}
use Rattle.store_checks.specs.Causes.{Tell}
use Rattle.store_rounds.specs.Images.{HaveImages, AreSettledAs, IsStopOfEach}

module _ {D : Type 0} (state : D → DiskState) where
  -- one image of each, as one tuple and by places
  same_length : (devices : List D) (images : List (List ℕ)) → AreImages (map state devices) images → length images ≡ length devices
  same_length [] [] are = refl
  same_length [] (c ∷ cs) are = absurd are
  same_length (x ∷ devices) [] are = absurd are
  same_length (x ∷ devices) (c ∷ cs) are = ap suc (same_length devices cs are.1)

  pub have_images : (devices : List D) (images : List (List ℕ)) → AreImages (map state devices) images → HaveImages state devices images
  have_images devices images are = record {
    many = same_length devices images are;
    each = λ e d below. each_image_at state (λ i disk c. disk.images c) devices images are e d below;
  }

  pub are_images : (devices : List D) (images : List (List ℕ)) → length images ≡ length devices
      → ((e : ℕ) (d : D) → e < length devices → (state (get_or devices e d)).images (get_or images e [])) → AreImages (map state devices) images
  are_images [] [] many each = tt
  are_images [] (c ∷ cs) many each = absurd (omega arith)
  are_images (x ∷ devices) [] many each = absurd (omega arith)
  are_images (x ∷ devices) (c ∷ cs) many each = (each 0 x (omega arith), are_images devices cs (omega arith) (λ e d below. each (suc e) d (omega arith)))

  -- a tuple with this image of one device
  pub tuple_with : (devices : List D) (images : List (List ℕ)) → length images ≡ length devices
      → ((e : ℕ) (d : D) → e < length devices → (state (get_or devices e d)).images (get_or images e []))
      → (e : ℕ) (d : D) → e < length devices → (c : List ℕ) → (state (get_or devices e d)).images c → (tuple : List (List ℕ)) × AreImages (map state devices) tuple × (get_or tuple e [] ≡ c)
  tuple_with [] images many each e d below c image = absurd (omega arith)
  tuple_with (x ∷ devices) [] many each e d below c image = absurd (omega arith)
  tuple_with (x ∷ devices) (t ∷ images) many each zero d below c image = (c ∷ images, (image, are_images devices images (omega arith) (λ k y within. each (suc k) y (omega arith))), refl)
  tuple_with (x ∷ devices) (t ∷ images) many each (suc e) d below c image =
      let rest = tuple_with devices images (omega arith) (λ k y within. each (suc k) y (omega arith)) e d (omega arith) c image in
      (t ∷ rest.0, (each 0 x (omega arith), rest.1), rest.2)

  -- what devices tell are images of them
  pub told_images : ((d : D) → IsDisk (state d)) → (devices : List D) (told : List (List ℕ)) → Tell state devices told → (e : ℕ) (d : D) → e < length devices → (state (get_or devices e d)).images (get_or told e [])
  told_images lawful devices told tell e d below = present_at (state (get_or devices e d)) (get_or told e []) (lawful (get_or devices e d)) (tell.told e d below)

  -- **Where there is no other tuple, no device has another image.**
  pub settled_as : ((d : D) → IsDisk (state d)) → (devices : List D) (told : List (List ℕ)) → Tell state devices told → ((images : List (List ℕ)) → AreImages (map state devices) images → images ≡ told) → AreSettledAs state devices told
  settled_as lawful devices told tell only = record {
    many = tell.many;
    each = λ e d below c image.
        let tuple = tuple_with devices told tell.many (told_images lawful devices told tell) e d below c image in
        sym tuple.2 ∙ ap (λ images. get_or images e []) (only tuple.0 tuple.1);
  }

  -- A stop of several devices.
  stop_news : (b : ℕ) (old new : List D) (images : List (List ℕ)) → IsStop b (map state old) (map state new) images → length new ≡ length old
  stop_news b [] [] images stop = refl
  stop_news b [] (n ∷ new) images stop = absurd stop
  stop_news b (o ∷ old) [] images stop = absurd stop
  stop_news b (o ∷ old) (n ∷ new) [] stop = absurd stop
  stop_news b (o ∷ old) (n ∷ new) (c ∷ cs) stop = ap suc (stop_news b old new cs stop.1)

  stop_images : (b : ℕ) (old new : List D) (images : List (List ℕ)) → IsStop b (map state old) (map state new) images → length images ≡ length old
  stop_images b [] [] [] stop = refl
  stop_images b [] [] (c ∷ cs) stop = absurd stop
  stop_images b [] (n ∷ new) images stop = absurd stop
  stop_images b (o ∷ old) [] images stop = absurd stop
  stop_images b (o ∷ old) (n ∷ new) [] stop = absurd stop
  stop_images b (o ∷ old) (n ∷ new) (c ∷ cs) stop = ap suc (stop_images b old new cs stop.1)

  stop_at : (b : ℕ) (old new : List D) (images : List (List ℕ)) → IsStop b (map state old) (map state new) images → (e : ℕ) (d : D) → e < length old
      → (state (get_or new e d)).stops b (state (get_or old e d)).moment (get_or images e [])
  stop_at b [] new images stop e d below = absurd (omega arith)
  stop_at b (o ∷ old) [] images stop e d below = absurd stop
  stop_at b (o ∷ old) (n ∷ new) [] stop e d below = absurd stop
  stop_at b (o ∷ old) (n ∷ new) (c ∷ cs) stop zero d below = stop.0
  stop_at b (o ∷ old) (n ∷ new) (c ∷ cs) stop (suc e) d below = stop_at b old new cs stop.1 e d (omega arith)

  -- **A stop of several devices is one of each.**
  pub stop_of_each : (b : ℕ) (old new : List D) (images : List (List ℕ)) → IsStop b (map state old) (map state new) images → IsStopOfEach state b old new images
  stop_of_each b old new images stop = record {
    many = stop_images b old new images stop;
    in_place = stop_news b old new images stop;
    each = stop_at b old new images stop;
  }

  -- **Of devices that are as they were it leaves images.**
  pub idle_stop : ((d : D) → IsDisk (state d)) → (b : ℕ) (devices : List D) (images : List (List ℕ)) → IsStop b (map state devices) (map state devices) images → AreImages (map state devices) images
  idle_stop lawful b [] [] stop = tt
  idle_stop lawful b [] (c ∷ cs) stop = absurd stop
  idle_stop lawful b (x ∷ devices) [] stop = absurd stop
  idle_stop lawful b (x ∷ devices) (c ∷ cs) stop = ((lawful x).only_now b c stop.0, idle_stop lawful b devices cs stop.1)

  -- and so of devices that are the same ones
  pub same_stop : ((d : D) → IsDisk (state d)) → (b : ℕ) (olds news : List D) (images : List (List ℕ)) → news ≡ olds → IsStop b (map state olds) (map state news) images → AreImages (map state olds) images
  same_stop lawful b olds news images same stop = idle_stop lawful b olds images (subst (λ (devices : List D). IsStop b (map state olds) (map state devices) images) same stop)
