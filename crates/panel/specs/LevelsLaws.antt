-- A law for each row of the kinds that a level knows, and for a number that stands in none.
use Rattle.std.specs.Prelude.{◌≡◌, refl, true, false, ℕ}
use borrow.Author.Tests.{ne_eqb}
use Rattle.panel.specs.declared.levels.Kind.TheVariants.{Identity, PressureSet, TemperatureSet, Trim, Note}
use Rattle.panel.specs.declared.levels.Level.{Level}
use Rattle.panel.specs.declared.levels.Level.TheVariants.{One, Two}
use Rattle.panel.specs.Levels.{knows}
use Rattle.panel.specs.Kinds.{level_number, IsKnown}

module _ (level : Level) (number : ℕ) where
  pub known_identity : number ≡ 1 → IsKnown (level_number level) number Identity
  unfolding knows
  known_identity e = record { same = e; known = rw e (at level) }
    where
      at : (l : Level) → knows (level_number l) 1 ≡ true
      at One = refl
      at Two = refl

  pub known_pressure_set : number ≡ 2 → IsKnown (level_number level) number PressureSet
  unfolding knows
  known_pressure_set e = record { same = e; known = rw e (at level) }
    where
      at : (l : Level) → knows (level_number l) 2 ≡ true
      at One = refl
      at Two = refl

  pub known_temperature_set : number ≡ 3 → IsKnown (level_number level) number TemperatureSet
  unfolding knows
  known_temperature_set e = record { same = e; known = rw e (at level) }
    where
      at : (l : Level) → knows (level_number l) 3 ≡ true
      at One = refl
      at Two = refl

  pub known_trim : level ≡ Two → number ≡ 4 → IsKnown (level_number level) number Trim
  unfolding knows
  known_trim l e = record { same = e; known = rw (l, e) }

  pub known_note : level ≡ Two → number ≡ 129 → IsKnown (level_number level) number Note
  unfolding knows
  known_note l e = record { same = e; known = rw (l, e) }

  pub trim_not_known : level ≡ One → number ≡ 4 → knows (level_number level) number ≡ false
  unfolding knows
  trim_not_known l e = rw (l, e)

  pub note_not_known : level ≡ One → number ≡ 129 → knows (level_number level) number ≡ false
  unfolding knows
  note_not_known l e = rw (l, e)

  pub other_not_known : (number ≡ 1 → ⊥) → (number ≡ 2 → ⊥) → (number ≡ 3 → ⊥) → (number ≡ 4 → ⊥) → (number ≡ 129 → ⊥)
      → knows (level_number level) number ≡ false
  unfolding knows
  other_not_known a b c d e = at level
    where
      at : (l : Level) → knows (level_number l) number ≡ false
      at One = rw (ne_eqb number 1 a, ne_eqb number 2 b, ne_eqb number 3 c)
      at Two = rw (ne_eqb number 1 a, ne_eqb number 2 b, ne_eqb number 3 c, ne_eqb number 4 d, ne_eqb number 129 e)

pub ruleset kinds_known = (known_identity, known_pressure_set, known_temperature_set, known_trim, known_note, trim_not_known, note_not_known, other_not_known)
