-- Two good texts that differ in one character or in the order of two, of which one has a character more, or of which one begins the other.
use Rattle.std.specs.Prelude.{◌≡◌, true, false, take, get_or}
use Rattle.std.proofs.Math.Path.{refl, sym}
use Rattle.std.proofs.Common.{ap, ◌∙◌, arith, length-take}
use mathlib.Core.List.{List, [], ◌∷◌, ◌++◌, append-nil, append_assoc}
use Prim.Native.Nat.{ℕ, ◌+◌, ◌-◌, ◌*◌, ◌<◌}
use borrow.Author.Tests.{ne_eqb, eqb-true, eqb-false}
use Rattle.std.proofs.Math.Dec.{eqb}
use Rattle.std.proofs.Math.ListN.{length, length-append}
use Rattle.laws.specs.Lists.{last_apart}
use Rattle.laws.specs.Cases.{decide}
use Rattle.refusals.specs.Refusals.{result}
use Rattle.hextext.specs.Record.{digit, bytes_of, record_bytes, count_of, data_of, formed, line_of, placed, judge}
use Rattle.hextext.proofs.RecordLaws.{formed_colon, formed_length, formed_long}
use Rattle.hextext.specs.Text.{bare, reading}
use Rattle.hexformat.specs.Format.{GoodText}
use Rattle.hexformat.specs.Damage.{SameDigit, SpareReturn}
use Rattle.hexformat.specs.SpelledLaws.{digit_of}
use Rattle.hexformat.specs.SumLaws.{same_digit, same_bytes, same_either_way, same_bytes_exchanged}
use Rattle.hexformat.specs.BareLaws.{bare_return, bare_append, bare_on, bare_last}
use Rattle.hextext.proofs.TextLaws.{ended}
use Rattle.hexformat.specs.ReadingLaws.{refused_not, same_result}
use Rattle.hexformat.proofs.DifferenceLaws.{digit_inside, return_inside, formed_odd, longer_by_one, GoodRecord, read_line_good, no_empty_line, starts_colon, no_colon, reads_on, UpToDifference, good_up_to_difference}

-- ---- they differ in one character

module _ (b c : ℕ) (differ : b ≡ c → ⊥) where
  alike : (u w : List ℕ) → GoodRecord (u ++ b ∷ w) → GoodRecord (u ++ c ∷ w) → SameDigit b c × (record_bytes (u ++ b ∷ w) ≡ record_bytes (u ++ c ∷ w))
  unfolding record_bytes
  alike [] w s t = absurd (differ (formed_colon (b ∷ w) s.well_formed ∙ sym (formed_colon (c ∷ w) t.well_formed)))
  alike (a ∷ u) w s t =
      let h = digit_inside a u w b s.well_formed in
      let k = digit_inside a u w c t.well_formed in
      let n : ℕ = count_of (bytes_of (u ++ b ∷ w)) + 5 in
      let long : length (u ++ b ∷ w) ≡ n * 2 = omega (arith, formed_length (a ∷ u ++ b ∷ w) s.well_formed) in
      let long' : length (u ++ c ∷ w) ≡ n * 2 = length-append u (c ∷ w) ∙ sym (length-append u (b ∷ w)) ∙ long in
      let e : digit b ≡ digit c = same_digit u w b c n h k long long' s.balanced t.balanced in
      (record { value = digit c; first = digit_of b (digit c) e k; second = digit_of c (digit c) refl k }, same_bytes u w b c e)

  alike_bare : (u v : List ℕ) → GoodRecord (bare (u ++ b ∷ v)) → GoodRecord (bare (u ++ c ∷ v))
      → SameDigit b c × (record_bytes (bare (u ++ b ∷ v)) ≡ record_bytes (bare (u ++ c ∷ v)))
  alike_bare u (d ∷ v) s t = rw (bare_on u v b d, bare_on u v c d) (alike u (bare (d ∷ v)) (rw (bare_on u v b d) at s) (rw (bare_on u v c d) at t))
  alike_bare u [] s t =
      decide (eqb b 13)
      (λ p. decide (eqb c 13)
      (λ q. absurd (differ (eqb-true b 13 p ∙ sym (eqb-true c 13 q))))
      (λ q.
      let l : bare (u ++ b ∷ []) ≡ u = rw (eqb-true b 13 p) (bare_return u) in
      absurd (formed_odd u (u ++ c ∷ []) (rw l at s.well_formed) (rw (bare_last u c (eqb-false c 13 q)) at t.well_formed) (longer_by_one u c))))
      (λ p. decide (eqb c 13)
      (λ q.
      let l : bare (u ++ c ∷ []) ≡ u = rw (eqb-true c 13 q) (bare_return u) in
      absurd (formed_odd u (u ++ b ∷ []) (rw l at t.well_formed) (rw (bare_last u b (eqb-false b 13 p)) at s.well_formed) (longer_by_one u b)))
      (λ q.
      let l = bare_last u b (eqb-false b 13 p) in
      let m = bare_last u c (eqb-false c 13 q) in
      rw (l, m) (alike u [] (rw l at s) (rw m at t))))

-- a line that is read, with a colon after it
colon_after : (room line : ℕ) (image u text z : List ℕ) → GoodRecord (bare u) → reading room line image (u ++ 58 ∷ []) text ≡ result z → ⊥
colon_after room line image [] text z s e = no_empty_line s.well_formed
colon_after room line image (a ∷ u) text z s e = no_colon room line image a u [] text z e

-- an LF can't be replaced
line_feed : (room line : ℕ) (image u text y z : List ℕ) (c : ℕ) → (c ≡ 10 → ⊥)
    → reading room line image u (10 ∷ text) ≡ result y → reading room line image u (c ∷ text) ≡ result z → ⊥
unfolding reading
line_feed room line image u [] y z c h e f = refused_not (rw (ne_eqb c 10 h) at f)
line_feed room line image u (d ∷ text) y z c h e f =
    let g = reads_on room line image u (d ∷ text) y (omega arith) e in
    let q : d ≡ 58 = starts_colon room (line + 1) (image ++ data_of (record_bytes (bare u))) text y d g.2 in
    later (u ++ c ∷ []) (omega (arith, longer_by_one u c)) (rw (ne_eqb c 10 h, q) at f)
  where
    later : (p : List ℕ) → 0 < length p → reading room line image (p ++ 58 ∷ []) text ≡ result z → ⊥
    later [] h e = omega arith
    later (a ∷ p) h e = no_colon room line image a p [] text z e

same_judged : (room at : ℕ) (l m : List ℕ) → formed l ≡ true → formed m ≡ true → record_bytes l ≡ record_bytes m → judge room at m ≡ judge room at l
unfolding judge placed line_of
same_judged room at l m f g e = rw (f, g, e)

-- p and q are what was passed of the line in each text; wherever the line ends, they say the same
module _
    {X : Type 0} (p q : List ℕ)
    (alike_from : (v : List ℕ) → GoodRecord (bare (p ++ v)) → GoodRecord (bare (q ++ v))
    → X × (record_bytes (bare (p ++ v)) ≡ record_bytes (bare (q ++ v)))) where
  in_line : (room line : ℕ) (image v text y z : List ℕ) → reading room line image (p ++ v) text ≡ result y
      → reading room line image (q ++ v) text ≡ result z → X × (z ≡ y)
  unfolding reading
  in_line room line image v [] y z e f = refused_not e
  in_line room line image v (a ∷ text) y z e f =
      decide (eqb a 10)
      (λ (t : eqb a 10 ≡ true).
      let l : List ℕ = bare (p ++ v) in
      let m : List ℕ = bare (q ++ v) in
      let s = read_line_good room line image (p ++ v) text y (rw t at e) in
      let s' = read_line_good room line image (q ++ v) text z (rw t at f) in
      let k = alike_from v s s' in
      let j : judge room (length image) m ≡ judge room (length image) l = same_judged room (length image) l m s.well_formed s'.well_formed k.1 in
      (k.0, same_result (sym (rw (t, j, ← k.1) at f) ∙ rw t at e)))
      (λ (t : eqb a 10 ≡ false).
      let e' = rw (t, append_assoc p v (a ∷ [])) at e in
      let f' = rw (t, append_assoc q v (a ∷ [])) at f in
      in_line room line image (v ++ a ∷ []) text y z e' f')

module _ (room b c : ℕ) (differ : b ≡ c → ⊥) where
  at_place : (rest y z : List ℕ) → UpToDifference room (b ∷ rest) (c ∷ rest) y z → SameDigit b c × (z ≡ y)
  unfolding reading
  at_place rest y z p =
      decide (eqb b 10)
      (λ (q : eqb b 10 ≡ true).
      let e = eqb-true b 10 q in
      absurd (line_feed room p.line p.image p.passed rest y z c (λ (o : c ≡ 10). differ (e ∙ sym o)) (rw e at p.first) p.second))
      (λ (q : eqb b 10 ≡ false).
      decide (eqb c 10)
      (λ (o : eqb c 10 ≡ true).
      absurd (line_feed room p.line p.image p.passed rest z y b (eqb-false b 10 q) (rw (eqb-true c 10 o) at p.second) p.first))
      (λ (o : eqb c 10 ≡ false).
      let u : List ℕ = p.passed in
      in_line (u ++ b ∷ []) (u ++ c ∷ []) (λ v. rw (append_assoc u (b ∷ []) v, append_assoc u (c ∷ []) v) (alike_bare b c differ u v))
      room p.line p.image [] rest y z (rw (q, sym (append-nil (u ++ b ∷ []))) at p.first) (rw (o, sym (append-nil (u ++ c ∷ []))) at p.second)))

-- two good texts that differ in one character: only the case of a digit differs, and they are texts of the same image
pub one_apart : (image other before rest : List ℕ) (b c : ℕ) → GoodText image (before ++ b ∷ rest) → GoodText other (before ++ c ∷ rest) → (b ≡ c → ⊥)
    → SameDigit b c × (other ≡ image)
one_apart image other before rest b c g g' differ =
    at_place (length image + length other) b c differ rest image other (good_up_to_difference before (b ∷ rest) (c ∷ rest) g g' (omega arith))

-- ---- they differ in two characters exchanged

module _ (b c : ℕ) (differ : b ≡ c → ⊥) where
  exchanged_alike : (u w : List ℕ) → GoodRecord (u ++ b ∷ c ∷ w) → GoodRecord (u ++ c ∷ b ∷ w)
      → SameDigit b c × (record_bytes (u ++ b ∷ c ∷ w) ≡ record_bytes (u ++ c ∷ b ∷ w))
  unfolding record_bytes
  exchanged_alike [] w s t = absurd (differ (formed_colon (b ∷ c ∷ w) s.well_formed ∙ sym (formed_colon (c ∷ b ∷ w) t.well_formed)))
  exchanged_alike (a ∷ u) w s t =
      let h = digit_inside a u (c ∷ w) b s.well_formed in
      let k = digit_inside a u (b ∷ w) c t.well_formed in
      let n : ℕ = count_of (bytes_of (u ++ b ∷ c ∷ w)) + 5 in
      let long : length (u ++ b ∷ c ∷ w) ≡ n * 2 = omega (arith, formed_length (a ∷ u ++ b ∷ c ∷ w) s.well_formed) in
      let long' : length (u ++ c ∷ b ∷ w) ≡ n * 2 = length-append u (c ∷ b ∷ w) ∙ sym (length-append u (b ∷ c ∷ w)) ∙ long in
      let e : digit b ≡ digit c = same_either_way u w b c n h k long long' s.balanced t.balanced in
      (record { value = digit c; first = digit_of b (digit c) e k; second = digit_of c (digit c) refl k }, same_bytes_exchanged u w b c e)

-- a line with two characters more, the CR taken off
bare_two : (u v : List ℕ) (b c d : ℕ) → bare (u ++ b ∷ c ∷ d ∷ v) ≡ u ++ b ∷ c ∷ bare (d ∷ v)
bare_two u v b c d = bare_append u (c ∷ d ∷ v) b ∙ ap (λ (l : List ℕ). u ++ l) (bare_append (b ∷ c ∷ []) v d)

bare_two_last : (u : List ℕ) (b c : ℕ) → (c ≡ 13 → ⊥) → bare (u ++ b ∷ c ∷ []) ≡ u ++ b ∷ c ∷ []
bare_two_last u b c h = rw (append_assoc u (b ∷ []) (c ∷ [])) at (bare_last (u ++ b ∷ []) c h)

module _ (b c : ℕ) (differ : b ≡ c → ⊥) where
  exchanged_bare : (u v : List ℕ) → GoodRecord (bare (u ++ b ∷ c ∷ v)) → GoodRecord (bare (u ++ c ∷ b ∷ v))
      → SameDigit b c × (record_bytes (bare (u ++ b ∷ c ∷ v)) ≡ record_bytes (bare (u ++ c ∷ b ∷ v)))
  exchanged_bare u (d ∷ v) s t =
      rw (bare_two u v b c d, bare_two u v c b d) (exchanged_alike b c differ u (bare (d ∷ v)) (rw (bare_two u v b c d) at s) (rw (bare_two u v c b d) at t))
  exchanged_bare u [] s t =
      decide (eqb b 13)
      (λ p.
      let e = eqb-true b 13 p in
      absurd (return_inside u (c ∷ []) (rw (bare_two_last u b c (λ (q : c ≡ 13). differ (e ∙ sym q)), e) at s.well_formed)))
      (λ p. decide (eqb c 13)
      (λ q. absurd (return_inside u (b ∷ []) (rw (bare_two_last u c b (eqb-false b 13 p), eqb-true c 13 q) at t.well_formed)))
      (λ q.
      let l = bare_two_last u b c (eqb-false c 13 q) in
      let m = bare_two_last u c b (eqb-false b 13 p) in
      rw (l, m) (exchanged_alike b c differ u [] (rw l at s) (rw m at t))))

-- an LF can't trade places with its neighbour
line_feed_first : (room line : ℕ) (image u text y z : List ℕ) (c : ℕ) → (c ≡ 10 → ⊥)
    → reading room line image u (10 ∷ c ∷ text) ≡ result y → reading room line image u (c ∷ 10 ∷ text) ≡ result z → ⊥
unfolding reading
line_feed_first room line image u text y z c h e f =
    let g = reads_on room line image u (c ∷ text) y (omega arith) e in
    let q : c ≡ 58 = starts_colon room (line + 1) (image ++ data_of (record_bytes (bare u))) text y c g.2 in
    colon_after room line image u (10 ∷ text) z (read_line_good room line image u (c ∷ text) y e) (rw (ne_eqb c 10 h, q) at f)

module _ (room b c : ℕ) (differ : b ≡ c → ⊥) where
  exchanged_at_place : (rest y z : List ℕ) → UpToDifference room (b ∷ c ∷ rest) (c ∷ b ∷ rest) y z → SameDigit b c × (z ≡ y)
  unfolding reading
  exchanged_at_place rest y z p =
      decide (eqb b 10)
      (λ (q : eqb b 10 ≡ true).
      let e = eqb-true b 10 q in
      absurd (line_feed_first room p.line p.image p.passed rest y z c (λ (o : c ≡ 10). differ (e ∙ sym o)) (rw e at p.first) (rw e at p.second)))
      (λ (q : eqb b 10 ≡ false).
      decide (eqb c 10)
      (λ (o : eqb c 10 ≡ true).
      let e = eqb-true c 10 o in
      absurd (line_feed_first room p.line p.image p.passed rest z y b (eqb-false b 10 q) (rw e at p.second) (rw e at p.first)))
      (λ (o : eqb c 10 ≡ false).
      let u : List ℕ = p.passed in
      in_line (u ++ b ∷ c ∷ []) (u ++ c ∷ b ∷ []) (λ v. rw (append_assoc u (b ∷ c ∷ []) v, append_assoc u (c ∷ b ∷ []) v) (exchanged_bare b c differ u v))
      room p.line p.image [] rest y z
      (rw (q, o, append_assoc u (b ∷ []) (c ∷ []), sym (append-nil (u ++ b ∷ c ∷ []))) at p.first)
      (rw (o, q, append_assoc u (c ∷ []) (b ∷ []), sym (append-nil (u ++ c ∷ b ∷ []))) at p.second)))

-- two good texts that differ in the order of two neighbouring characters: these are the same digit, and the texts are texts of the same image
pub exchanged_apart : (image other before rest : List ℕ) (b c : ℕ) → GoodText image (before ++ b ∷ c ∷ rest)
    → GoodText other (before ++ c ∷ b ∷ rest) → (b ≡ c → ⊥)
    → SameDigit b c × (other ≡ image)
exchanged_apart image other before rest b c g g' differ =
    exchanged_at_place (length image + length other) b c differ rest image other (good_up_to_difference before (b ∷ c ∷ rest) (c ∷ b ∷ rest) g g' (omega arith))

-- ---- one of them has a character more

-- where a line is formed with its last CR taken off and as it is, it has none
no_return : (l : List ℕ) → formed (bare l) ≡ true → formed l ≡ true → bare l ≡ l
unfolding bare
no_return l e f =
    let n : ℕ = length l - 1 in
    let h = formed_long l f in
    decide (eqb (get_or l n 0) 13)
    (λ (q : eqb (get_or l n 0) 13 ≡ true). absurd (formed_odd (take n l) l (rw q at e) f (omega (arith, length-take n l))))
    (λ (q : eqb (get_or l n 0) 13 ≡ false). rw q)

-- a line that is formed but for its CR gets no character more
no_longer : (l : List ℕ) (c : ℕ) → formed (bare l) ≡ true → formed (l ++ c ∷ []) ≡ true → ⊥
unfolding bare
no_longer l c e f =
    let n : ℕ = length l - 1 in
    let h = formed_long (l ++ c ∷ []) f in
    decide (eqb (get_or l n 0) 13)
    (λ (q : eqb (get_or l n 0) 13 ≡ true).
    let p : l ≡ take n l ++ 13 ∷ [] = last_apart l n (omega (arith, longer_by_one l c)) ∙ ap (λ (b : ℕ). take n l ++ b ∷ []) (eqb-true (get_or l n 0) 13 q) in
    return_inside (take n l) (c ∷ []) (rw (p, append_assoc (take n l) (13 ∷ []) (c ∷ [])) at f))
    (λ (q : eqb (get_or l n 0) 13 ≡ false). formed_odd l (l ++ c ∷ []) (rw q at e) f (longer_by_one l c))

module _ (room line : ℕ) (image : List ℕ) (c : ℕ) where
  -- the line with the character more ends here
  more_ends : (u v text y z : List ℕ) → ended room line image (u ++ v) text ≡ result y → ended room line image (u ++ c ∷ v) text ≡ result z
      → GoodRecord (bare (u ++ v)) → GoodRecord (bare (u ++ c ∷ v)) → SpareReturn c (v ++ 10 ∷ text) × (z ≡ y)
  more_ends u (d ∷ v) text y z e f s t =
      let l : List ℕ = bare (d ∷ v) in
      absurd (formed_odd (u ++ l) (u ++ c ∷ l) (rw (bare_append u v d) at s.well_formed) (rw (bare_on u v c d) at t.well_formed)
      (omega (arith, length-append u l, length-append u (c ∷ l))))
  more_ends u [] text y z e f s t =
      let a : u ++ [] ≡ u = append-nil u in
      decide (eqb c 13)
      (λ (q : eqb c 13 ≡ true).
      let p : c ≡ 13 = eqb-true c 13 q in
      let m : bare (u ++ c ∷ []) ≡ u = rw p (bare_return u) in
      let k : bare (u ++ []) ≡ u = ap bare a ∙ no_return u (rw a at s.well_formed) (rw m at t.well_formed) in
      (record { is_return = p; after = text; line_feed = refl }, same_result (sym (rw m at f) ∙ rw k at e)))
      (λ (q : eqb c 13 ≡ false). absurd (no_longer u c (rw a at s.well_formed) (rw (bare_last u c (eqb-false c 13 q)) at t.well_formed)))

  more_in_line : (u v text y z : List ℕ) → reading room line image (u ++ v) text ≡ result y → reading room line image (u ++ c ∷ v) text ≡ result z
      → SpareReturn c (v ++ text) × (z ≡ y)
  unfolding reading
  more_in_line u v [] y z e f = refused_not e
  more_in_line u v (a ∷ text) y z e f =
      decide (eqb a 10)
      (λ (q : eqb a 10 ≡ true).
      let e' : ended room line image (u ++ v) text ≡ result y = rw q at e in
      let f' : ended room line image (u ++ c ∷ v) text ≡ result z = rw q at f in
      let good = read_line_good room line image (u ++ v) text y e' in
      let good' = read_line_good room line image (u ++ c ∷ v) text z f' in
      rw (eqb-true a 10 q) (more_ends u v text y z e' f' good good'))
      (λ (q : eqb a 10 ≡ false).
      rw (append_assoc v (a ∷ []) text) at
      (more_in_line u (v ++ a ∷ []) text y z (rw (q, append_assoc u v (a ∷ [])) at e) (rw (q, append_assoc u (c ∷ v) (a ∷ [])) at f)))

-- an LF too much
more_lines : (room line : ℕ) (image u text y z : List ℕ) → reading room line image u (10 ∷ text) ≡ result y
    → reading room line image u text ≡ result z → ⊥
unfolding reading
more_lines room line image u [] y z e f = refused_not f
more_lines room line image u (d ∷ text) y z e f =
    let g = reads_on room line image u (d ∷ text) y (omega arith) e in
    let q : d ≡ 58 = starts_colon room (line + 1) (image ++ data_of (record_bytes (bare u))) text y d g.2 in
    colon_after room line image u text z (read_line_good room line image u (d ∷ text) y e) (rw q at f)

more_at_place : (room c : ℕ) (rest y z : List ℕ) → UpToDifference room (c ∷ rest) rest y z → SpareReturn c rest × (y ≡ z)
unfolding reading
more_at_place room c rest y z p =
    decide (eqb c 10)
    (λ (q : eqb c 10 ≡ true). absurd (more_lines room p.line p.image p.passed rest y z (rw (eqb-true c 10 q) at p.first) p.second))
    (λ (q : eqb c 10 ≡ false).
    more_in_line room p.line p.image c p.passed [] rest z y (rw (sym (append-nil p.passed)) at p.second) (rw q at p.first))

-- two good texts, one of which has one character more: it is a CR directly before an LF, and they are texts of the same image
pub one_longer : (image other before rest : List ℕ) (c : ℕ) → GoodText image (before ++ c ∷ rest) → GoodText other (before ++ rest)
    → SpareReturn c rest × (image ≡ other)
one_longer image other before rest c g g' =
    more_at_place (length image + length other) c rest image other (good_up_to_difference before (c ∷ rest) rest g g' (omega arith))

-- ---- one of them stops

stops_at_place : (room : ℕ) (s y z : List ℕ) → UpToDifference room s [] y z → ⊥
unfolding reading
stops_at_place room s y z p = refused_not p.second

-- no good text is the beginning of another
pub no_beginning : (image other front rest : List ℕ) (c : ℕ) → GoodText image (front ++ c ∷ rest) → GoodText other front → ⊥
no_beginning image other front rest c g g' =
    stops_at_place (length image + length other) (c ∷ rest) image other (good_up_to_difference front (c ∷ rest) [] g (rw (append-nil front) g') (omega arith))
