-- The count that a line tells, and whether the line ends where its count says.
use Rattle.std.specs.Prelude.{◌≡◌, Bool, true, false, ◌&&◌, List, ℕ, ◌+◌, ◌*◌, ◌≤◌, ◌<◌, eqb, length, take, Option, Some, None, is_some, ⊤}
use Rattle.std.proofs.Common.{sym, ap, ◌∙◌, arith, eqb-true}
use Rattle.std.proofs.Math.ListN.{get_or}
use Rattle.std.proofs.Math.Seq.{length-take-le, get_or-take}
use Rattle.laws.specs.Cases.{decide, never, both_left, both_right}
use Rattle.hextext.specs.Record.{digit}
use Rattle.hextext.proofs.RecordLaws.{byte_at}
use Rattle.hexdigits.specs.DigitsLaws.{SpellsByte}
use Rattle.hexline.specs.Line.{next_line}
use Rattle.hexlines.specs.LettersLaws.{When, UsualStart}

pub record EndsAt (line : List ℕ) (end : ℕ) : Type 0 where
  pub is : next_line line end ≡ Some (length line)

pub ends_lf : (line : List ℕ) (end : ℕ) (answer : Bool) → length line ≡ end + 1 → answer ≡ eqb (get_or line end 0) 10 → When answer (EndsAt line end)
unfolding next_line
ends_lf line end answer size e = record { says = λ q. record { is = rw (sym e ∙ q, size) } }

pub ends_crlf : (line : List ℕ) (end : ℕ) (answer : Bool) → length line ≡ end + 2 → get_or line end 0 ≡ 13 → answer ≡ eqb (get_or line (end + 1) 0) 10
    → When answer (EndsAt line end)
unfolding next_line
ends_crlf line end answer size cr e = record { says = λ q. record { is = rw (cr, sym e ∙ q, size) } }

-- a line with a colon and a count, which ends where the count says
pub record LineCounted (line : List ℕ) (n : ℕ) : Type 0 where
  pub colon : get_or line 0 0 ≡ 58
  pub count : SpellsByte line 1 n
  pub small : n < 256
  pub some : n ≡ 0 → ⊥
  pub ends : EndsAt line (11 + n * 2)

-- where a count is told, it is the line's
abbrev pub TellsCount : (line : List ℕ) → Option ℕ → Type 0
TellsCount line (Some n) = LineCounted line n
TellsCount line None = ⊤

pub tells_count : (line : List ℕ) (high low : ℕ) (answer : Bool) → get_or line 0 0 ≡ 58 → high ≡ digit (get_or line 1 0) → low ≡ digit (get_or line 2 0)
    → high < 16 → low < 16 → (high * 16 + low ≡ 0 → ⊥) → When answer (EndsAt line (11 + (high * 16 + low) * 2)) → answer ≡ true
    → LineCounted line (high * 16 + low)
unfolding byte_at
tells_count line high low answer c e f h k some w t =
    record {
      colon = c;
      count = record { high = omega arith; low = omega arith; is = rw (e, f) };
      small = omega arith;
      some = some;
      ends = w.says t;
    }

pub usual_counted : (line : List ℕ) (answer : Bool) → length line ≡ 44 → UsualStart line → answer ≡ eqb (get_or line 43 0) 10 → When answer (LineCounted line 16)
unfolding digit byte_at
usual_counted line answer size start e =
    let count : byte_at line 1 ≡ 16 = rw (start.first, start.second) in
    record {
      says = λ q. record {
        colon = start.colon;
        count = record { high = rw start.first (omega arith); low = rw start.second (omega arith); is = sym count };
        small = omega arith;
        some = λ z. omega arith;
        ends = (ends_lf line 43 answer size e).says q;
      };
    }

pub tells_usual : (line : List ℕ) (answer : Bool) → When answer (LineCounted line 16) → answer ≡ true → LineCounted line 16
tells_usual line answer w t = w.says t

-- the same without its line end
pub record Counted (l : List ℕ) (n : ℕ) : Type 0 where
  pub long : length l ≡ 11 + n * 2
  pub colon : get_or l 0 0 ≡ 58
  pub count : SpellsByte l 1 n
  pub small : n < 256
  pub some : 1 ≤ n

-- by the two kinds of line end
pub by_end : (line : List ℕ) (e : ℕ) → EndsAt line e → 1 ≤ length line → (P : Type 0)
    → (length line ≡ e + 1 → get_or line e 0 ≡ 10 → P) → (length line ≡ e + 2 → get_or line e 0 ≡ 13 → get_or line (e + 1) 0 ≡ 10 → P) → P
unfolding next_line
by_end line e h some P lf crlf =
    decide (eqb (get_or line e 0) 10)
    (λ (q : eqb (get_or line e 0) 10 ≡ true). lf (cc (rw q at h.is)) (eqb-true (get_or line e 0) 10 q))
    (λ (q : eqb (get_or line e 0) 10 ≡ false).
    decide (eqb (get_or line e 0) 13 && eqb (get_or line (e + 1) 0) 10)
    (λ (z : (eqb (get_or line e 0) 13 && eqb (get_or line (e + 1) 0) 10) ≡ true).
    crlf (cc (rw (q, z) at h.is)) (eqb-true (get_or line e 0) 13 (both_left (eqb (get_or line e 0) 13) (eqb (get_or line (e + 1) 0) 10) z))
    (eqb-true (get_or line (e + 1) 0) 10 (both_right (eqb (get_or line e 0) 13) (eqb (get_or line (e + 1) 0) 10) z)))
    (λ (z : (eqb (get_or line e 0) 13 && eqb (get_or line (e + 1) 0) 10) ≡ false).
    let none : None ≡ Some (length line) = rw (q, z) at h.is in
    never (ap is_some none)))

module _ (line : List ℕ) (n : ℕ) (c : LineCounted line n) (some : 12 < length line) where
  pub counted_long : 11 + n * 2 ≤ length line
  counted_long = by_end line (11 + n * 2) c.ends (omega arith) _ (λ size lf. omega arith) (λ size cr lf. omega arith)

  pub counted_inside : Counted (take (11 + n * 2) line) n
  unfolding byte_at
  counted_inside =
      let at : (i : ℕ) → i < 11 → get_or (take (11 + n * 2) line) i 0 ≡ get_or line i 0 = λ i h. get_or-take (11 + n * 2) line i 0 (omega arith) in
      record {
        long = length-take-le (11 + n * 2) line counted_long;
        colon = at 0 (omega arith) ∙ c.colon;
        count = record {
          high = rw (at 1 (omega arith)) c.count.high;
          low = rw (at 2 (omega arith)) c.count.low;
          is = rw (at 1 (omega arith), at 2 (omega arith)) c.count.is;
        };
        small = c.small;
        some = omega (arith, c.some);
      }
