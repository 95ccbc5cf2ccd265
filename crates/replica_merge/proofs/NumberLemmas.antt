-- Numbers as bytes, and back.
use Rattle.std.proofs.Common.{◌≡◌, ℕ, ◌+◌, ◌-◌, ◌*◌, ◌^◌, ◌<◌, ◌≤◌, zero, suc, List, [], ◌∷◌, ◌++◌, length, take, drop, get_or, refl, sym, ◌∙◌, ap, arith, length-append}
use Rattle.std.specs.Int.{to_be_bytes, from_be_bytes, w64}
use Rattle.std.proofs.lemmas.List.{take_at, drop_at, take_all, take_more, append-nil}
use Rattle.std.proofs.lemmas.Grind.{flat_map-append}
use Rattle.std.proofs.lemmas.Nat.{from_be_bytes-to_be_bytes_8}
use Rattle.std.proofs.Math.Seq.{take-add}
use Rattle.ports.specs.Bytes.{bytes_at, after_write}
use Rattle.ports.proofs.Parts.{bytes_at-within, take-after_write}
use Rattle.replica_merge.specs.Numbers.{bytes_of_numbers, numbers_at}

length-be : (n : ℕ) → length (to_be_bytes w64 n) ≡ 8
length-be n = refl

pub length-bytes_of_numbers : (numbers : List ℕ) → length (bytes_of_numbers numbers) ≡ 8 * length numbers
length-bytes_of_numbers [] = refl
length-bytes_of_numbers (n ∷ ns) =
    omega (arith, length-append (to_be_bytes w64 n) (bytes_of_numbers ns), length-be n, length-bytes_of_numbers ns)

-- one number more in front of a place
pub bytes_of_numbers-more : (numbers : List ℕ) (i : ℕ) → i < length numbers →
    bytes_of_numbers (take (i + 1) numbers) ≡ bytes_of_numbers (take i numbers) ++ to_be_bytes w64 (get_or numbers i 0)
bytes_of_numbers-more numbers i below =
    ap bytes_of_numbers (take_more numbers i 0 below)
    ∙ flat_map-append (to_be_bytes w64) (take i numbers) (get_or numbers i 0 ∷ [])
    ∙ ap (λ rest. bytes_of_numbers (take i numbers) ++ rest) (append-nil (to_be_bytes w64 (get_or numbers i 0)))

-- a piece more in front of a place
pub bytes_of_numbers-piece : (numbers : List ℕ) (done count : ℕ) →
    bytes_of_numbers (take done numbers) ++ bytes_of_numbers (take (done + count - done) (drop done numbers)) ≡ bytes_of_numbers (take (done + count) numbers)
bytes_of_numbers-piece numbers done count =
    let long : done + count - done ≡ count = omega arith in
    ap (λ n. bytes_of_numbers (take done numbers) ++ bytes_of_numbers (take n (drop done numbers))) long
    ∙ sym (flat_map-append (to_be_bytes w64) (take done numbers) (take count (drop done numbers)))
    ∙ ap bytes_of_numbers (sym (take-add done count numbers))

-- a loop that writes numbers, one behind the other
pub put_more : (numbers bytes : List ℕ) (i : ℕ) → i < length numbers → 8 * i ≤ length bytes →
    take (8 * i) bytes ≡ bytes_of_numbers (take i numbers) →
    take (8 * (i + 1)) (after_write (8 * i) (to_be_bytes w64 (get_or numbers i 0)) bytes) ≡ bytes_of_numbers (take (i + 1) numbers)
put_more numbers bytes i below within so_far =
    take-after_write (8 * i) (8 * (i + 1)) (to_be_bytes w64 (get_or numbers i 0)) bytes within (omega (arith, length-be (get_or numbers i 0)))
    ∙ ap (λ front. front ++ to_be_bytes w64 (get_or numbers i 0)) so_far
    ∙ sym (bytes_of_numbers-more numbers i below)

-- the v-th number that stands somewhere
pub get_or-numbers_at : (at count : ℕ) (bytes : List ℕ) (v : ℕ) → v < count → get_or (numbers_at at count bytes) v 0 ≡ from_be_bytes w64 (bytes_at (at + 8 * v) 8 bytes)
unfolding numbers_at
get_or-numbers_at at zero bytes v below = absurd (omega arith)
get_or-numbers_at at (suc count) bytes zero below =
    let same : at ≡ at + 8 * 0 = omega arith in
    ap (λ (place : ℕ). from_be_bytes w64 (bytes_at place 8 bytes)) same
get_or-numbers_at at (suc count) bytes (suc v) below =
    let same : at + 8 + 8 * v ≡ at + 8 * suc v = omega arith in
    get_or-numbers_at (at + 8) count bytes v (omega arith)
    ∙ ap (λ (place : ℕ). from_be_bytes w64 (bytes_at place 8 bytes)) same

pub length-numbers_at : (at count : ℕ) (bytes : List ℕ) → length (numbers_at at count bytes) ≡ count
unfolding numbers_at
length-numbers_at at zero bytes = refl
length-numbers_at at (suc count) bytes = ap suc (length-numbers_at (at + 8) count bytes)

-- the first eight of some bytes
eight_of : (at n : ℕ) (bytes : List ℕ) → 8 ≤ n → bytes_at 0 8 (bytes_at at n bytes) ≡ bytes_at at 8 bytes
eight_of at n bytes some =
    let here : at + 0 ≡ at = omega arith in
    bytes_at-within at n 0 8 bytes (omega arith) ∙ ap (λ (place : ℕ). bytes_at place 8 bytes) here

-- numbers are those of their bytes alone
pub numbers_at-same : (at count : ℕ) (a b : List ℕ) → bytes_at at (8 * count) a ≡ bytes_at at (8 * count) b → numbers_at at count a ≡ numbers_at at count b
unfolding numbers_at
numbers_at-same at zero a b same = refl
numbers_at-same at (suc count) a b same =
    let first : bytes_at at 8 a ≡ bytes_at at 8 b =
    sym (eight_of at (8 * suc count) a (omega arith)) ∙ ap (bytes_at 0 8) same ∙ eight_of at (8 * suc count) b (omega arith) in
    let rest : bytes_at (at + 8) (8 * count) a ≡ bytes_at (at + 8) (8 * count) b =
    sym (bytes_at-within at (8 * suc count) 8 (8 * count) a (omega arith))
    ∙ ap (bytes_at 8 (8 * count)) same
    ∙ bytes_at-within at (8 * suc count) 8 (8 * count) b (omega arith) in
    ap (λ (eight : List ℕ). from_be_bytes w64 eight ∷ numbers_at (at + 8) count a) first
    ∙ ap (λ ns. from_be_bytes w64 (bytes_at at 8 b) ∷ ns) (numbers_at-same (at + 8) count a b rest)

-- what was written is read
pub numbers_at-written : (at : ℕ) (numbers bytes : List ℕ) → ((k : ℕ) → get_or numbers k 0 < 2 ^ 64) →
    bytes_at at (8 * length numbers) bytes ≡ bytes_of_numbers numbers → numbers_at at (length numbers) bytes ≡ numbers
unfolding numbers_at
numbers_at-written at [] bytes fits stands = refl
numbers_at-written at (n ∷ ns) bytes fits stands =
    let long : 8 * length (n ∷ ns) ≡ 8 + 8 * length ns = omega arith in
    let first : bytes_at at 8 bytes ≡ to_be_bytes w64 n =
    sym (eight_of at (8 * length (n ∷ ns)) bytes (omega arith))
    ∙ ap (bytes_at 0 8) stands
    ∙ take_at (to_be_bytes w64 n) (bytes_of_numbers ns) 8 (length-be n) in
    let rest : bytes_at (at + 8) (8 * length ns) bytes ≡ bytes_of_numbers ns =
    sym (bytes_at-within at (8 * length (n ∷ ns)) 8 (8 * length ns) bytes (omega arith))
    ∙ ap (bytes_at 8 (8 * length ns)) stands
    ∙ ap (take (8 * length ns)) (drop_at (to_be_bytes w64 n) (bytes_of_numbers ns) 8 (length-be n))
    ∙ take_all (8 * length ns) (bytes_of_numbers ns) (omega (arith, length-bytes_of_numbers ns)) in
    let number : from_be_bytes w64 (bytes_at at 8 bytes) ≡ n =
    ap (from_be_bytes w64) first ∙ from_be_bytes-to_be_bytes_8 n (fits 0) in
    ap (λ m. m ∷ numbers_at (at + 8) (length ns) bytes) number
    ∙ ap (λ ms. n ∷ ms) (numbers_at-written (at + 8) ns bytes (λ k. fits (suc k)) rest)
