-- What clap makes of a word by how it looks.
use Rattle.std.proofs.Common.{◌≡◌, ◌==◌, Bool, true, false, cond, ℕ, [], ◌∷◌, Option, Some, None, refl, ap, eqb-true}
use Rattle.std.specs.List.{after_first, before_first, list_any}
use Rattle.std.specs.Str.{bytes_eq}
use Rattle.clap.specs.Lexer.{long_of, short_of}
use Rattle.job_words.specs.Tables.{Text}
use Rattle.job_words.specs.Reader.{hyphens, is_lone}
use Rattle.job_words.specs.Reading.{plain, named, refused, shape_of, is_equals_sign}

-- the four looks of a word, as clap sees each
pub data Look (word : Text) : Type 0 where
  looks_plain : shape_of word ≡ plain → bytes_eq word hyphens ≡ false → long_of word ≡ None → short_of word ≡ None → Look word
  looks_named : (name : Text) (text : Option Text) → shape_of word ≡ named name text → bytes_eq word hyphens ≡ false → long_of word ≡ Some (name, text) → Look word
  looks_short : (b : ℕ) (rest : Text) → shape_of word ≡ refused → bytes_eq word hyphens ≡ false → long_of word ≡ None → short_of word ≡ Some (b ∷ rest) → word ≡ 45 ∷ b ∷ rest → Look word
  looks_lone : shape_of word ≡ refused → is_lone word ≡ true → Look word

abbrev name_in : Text → Text
name_in word = before_first is_equals_sign word

abbrev text_in : Text → Option Text
text_in word = cond (list_any is_equals_sign word) (Some (after_first is_equals_sign word)) None

third : (a b : ℕ) (rest : Text) → (a == 45) ≡ true → (b == 45) ≡ true → Look (a ∷ b ∷ rest)
third a b [] e f = looks_lone (rw (e, f) refl) (rw (e, f) refl)
third a b (c ∷ rest) e f =
    looks_named (name_in (c ∷ rest)) (text_in (c ∷ rest)) (rw (e, f) refl) (rw (e, f) refl) (rw (e, f) refl)

second : (a b : ℕ) (rest : Text) → (a == 45) ≡ true → (is : Bool) → (b == 45) ≡ is → Look (a ∷ b ∷ rest)
second a b rest e true f = third a b rest e f
second a b rest e false f =
    looks_short b rest (rw (e, f) refl) (rw (e, f) refl) (rw (e, f) refl) (rw (e, f) refl) (ap (λ x. x ∷ b ∷ rest) (eqb-true a 45 e))

first : (a : ℕ) (rest : Text) (is : Bool) → (a == 45) ≡ is → Look (a ∷ rest)
first a rest false e = looks_plain (rw e refl) (rw e refl) (rw e refl) (rw e refl)
first a [] true e = looks_lone (rw e refl) (rw e refl)
first a (b ∷ rest) true e = second a b rest e (b == 45) refl

pub look_of : (word : Text) → Look word
look_of [] = looks_plain refl refl refl refl
look_of (a ∷ rest) = first a rest (a == 45) refl
