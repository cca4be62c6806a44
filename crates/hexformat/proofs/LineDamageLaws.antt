-- Two good texts, of which one is the other with a line lost, doubled, or exchanged with its neighbour.
use Rattle.std.specs.Prelude.{◌≡◌, refl, true, false, List, [], ◌∷◌, ◌++◌, ℕ, ◌+◌, ◌≤◌, ◌<◌, eqb, length, Err}
use Rattle.std.proofs.Common.{sym, ap, ◌∙◌, append-nil, append_assoc, arith, eqb-true, length-append}
use Rattle.std.proofs.lemmas.Bool.{eqb-false}
use Rattle.laws.specs.Cases.{decide}
use Rattle.refusals.specs.Refusals.{result, refused, refusal}
use Rattle.hextext.specs.Record.{record_bytes, data_of}
use Rattle.hextext.specs.Text.{bare, after, reading}
use Rattle.hextext.specs.Answers.{LineRecord}
use Rattle.hexformat.specs.Format.{Fields, Form, Balanced, IsData, IsEnd, GoodText}
use Rattle.hextext.proofs.WithoutLaws.{without_more}
use Rattle.hextext.proofs.TextLaws.{reading_line}
use Rattle.hexformat.specs.Faults.{NoLineFeed, WholeLine}
use Rattle.hexformat.specs.Damage.{WholeLines, none, more, LastData}
use Rattle.hexformat.specs.ReadingLaws.{refused_not, same_result, reading_form, judge_balanced}
use Rattle.hexformat.proofs.JudgedLaws.{Judged, more as data-judged, end, fault, judged, typed_other}
use Rattle.hexformat.proofs.FormatSaysLaws.{count_small, read_data, read_end, read_last, read_stops, reads_good}

-- ---- the reader at a whole line

-- a whole line that is read: data that have room, or the end with no text after it
data LineAt (room line : ℕ) (image l text y : List ℕ) : Type 0 where
  is_data : {r : Fields} → Form r l → Balanced r → IsData (length image) r → length image + length r.contents ≤ room
      → reading room (line + 1) (image ++ r.contents) [] text ≡ result y → LineAt room line image l text y
  is_end : {r : Fields} → Form r l → Balanced r → IsEnd r → text ≡ [] → image ≡ y → LineAt room line image l text y

judged_at : (room line : ℕ) (image l text y taken : List ℕ) {j : LineRecord} → Judged room image l taken j
    → after j line image text (reading room (line + 1) (image ++ taken) [] text) ≡ result y → LineAt room line image l text y
unfolding after
judged_at room line image l text y taken (data-judged f z d t h) e = is_data f z d h (rw t at e)
judged_at room line image l [] y taken (end f z d) e = is_end f z d refl (same_result e)
judged_at room line image l (c ∷ text) y taken (end f z d) e = refused_not e
judged_at room line image l text y taken (fault b) e = refused_not e

line_at : (room line : ℕ) (image text y : List ℕ) {l : List ℕ} → WholeLine l → reading room line image [] (l ++ text) ≡ result y
    → LineAt room line image l text y
line_at room line image text y w e =
    let inside : List ℕ = w.inside in
    rw w.is
    (judged_at room line image (inside ++ 10 ∷ []) text y (data_of (record_bytes (bare inside))) (judged room image inside)
    (rw (w.is, append_assoc inside (10 ∷ []) text, reading_line room line image [] inside text w.no_line_feed) at e))

-- a data record at another address than its own
elsewhere : (room line at : ℕ) (image text : List ℕ) {r : Fields} {l : List ℕ} → Form r l → Balanced r → IsData at r → (length image ≡ at → ⊥)
    → reading room line image [] (l ++ text) ≡ refused (refusal 3 line)
unfolding after
elsewhere room line at image text {r} f z d differ =
    reading_form room line image text f (Err 3)
    (judge_balanced r f.spelled room (length image) z
    ∙ typed_other (count_small f)
    (λ (d' : IsData (length image) r). differ (sym d'.starts ∙ d.starts))
    (λ (d' : IsEnd r). omega (arith, d.type_00, d'.type_01)) room)

-- an end record with text after it
end_goes_on : (room line : ℕ) (image text : List ℕ) {r : Fields} {l : List ℕ} → Form r l → Balanced r → IsEnd r → 0 < length text
    → reading room line image [] (l ++ text) ≡ refused (refusal 1 (line + 1))
unfolding after
end_goes_on room line image [] f z d h = absurd (omega arith)
end_goes_on room line image (c ∷ text) f z d h = read_end room line image (c ∷ text) f z d

-- ---- past whole lines

-- the reader is past the lines `before`: at line', with image'
record ReadPast (room line : ℕ) (image before : List ℕ) : Type 0 where
  line' : ℕ
  image' : List ℕ
  same : (text : List ℕ) → reading room line image [] (before ++ text) ≡ reading room line' image' [] text

past_line : (room line : ℕ) (image l before rest y : List ℕ) → 0 < length rest → LineAt room line image l (before ++ rest) y
    → ((next : List ℕ) → reading room (line + 1) next [] (before ++ rest) ≡ result y → ReadPast room (line + 1) next before)
    → ReadPast room line image (l ++ before)
past_line room line image l before rest y h (is_data {r = r} f z d k n) go =
    let p = go (image ++ r.contents) n in
    record {
      line' = p.line';
      image' = p.image';
      same = λ (text : List ℕ). rw (append_assoc l before text) (read_data room line image (before ++ text) f z d k ∙ p.same text);
    }
past_line room line image l before rest y h (is_end f z d n q) go = absurd (omega (arith, ap length n, length-append before rest))

past : (room line : ℕ) (image rest y : List ℕ) {before : List ℕ} → WholeLines before → 0 < length rest
    → reading room line image [] (before ++ rest) ≡ result y
    → ReadPast room line image before
past room line image rest y none h e = record { line' = line; image' = image; same = λ text. refl }
past room line image rest y (more {line = l} {text = before} w lines) h e =
    past_line room line image l before rest y h (line_at room line image (before ++ rest) y w (rw (append_assoc l before rest) at e))
    (λ next n. past room (line + 1) next rest y lines h n)

-- the first line of a text, or none
data First (text : List ℕ) : Type 0 where
  whole : (l t : List ℕ) → WholeLine l → text ≡ l ++ t → First text
  unended : NoLineFeed text → First text

first : (text : List ℕ) → First text
first [] = unended (λ i e. omega arith)
first (c ∷ text) =
    decide (eqb c 10)
    (λ (q : eqb c 10 ≡ true).
    let line : WholeLine (10 ∷ []) = record { inside = []; is = refl; no_line_feed = λ i e. omega arith } in
    whole (10 ∷ []) text line (ap (λ (b : ℕ). b ∷ text) (eqb-true c 10 q)))
    (λ (q : eqb c 10 ≡ false). longer (eqb-false c 10 q) (first text))
  where
    longer : (c ≡ 10 → ⊥) → First text → First (c ∷ text)
    longer n (whole l t w e) =
        let line : WholeLine (c ∷ l) =
        record { inside = c ∷ w.inside; is = ap (λ (m : List ℕ). c ∷ m) w.is; no_line_feed = without_more 10 c w.inside n w.no_line_feed } in
        whole (c ∷ l) t line (ap (λ (m : List ℕ). c ∷ m) e)
    longer n (unended w) = unended (without_more 10 c text n w)

-- ---- a line of a good text

whole_length : {l : List ℕ} → WholeLine l → 0 < length l
whole_length w = rw w.is (omega (arith, length-append w.inside (10 ∷ [])))

-- what follows a data line, read where that line was
lost_data : (room line : ℕ) (image rest y z : List ℕ) {r : Fields} {l : List ℕ} → Form r l → IsData (length image) r
    → reading room (line + 1) (image ++ r.contents) [] rest ≡ result y → reading room line image [] rest ≡ result z → First rest → LastData y l rest z
lost_data room line image rest y z f d e e' (unended w) = refused_not (sym (read_stops room (line + 1) _ [] rest w) ∙ e)
lost_data room line image rest y z {r} {l} f d e e' (whole m t w q) = at_next (line_at room (line + 1) (image ++ r.contents) t y w (rw q at e))
  where
    at_next : LineAt room (line + 1) (image ++ r.contents) m t y → LastData y l rest z
    at_next (is_data g b i k n) =
        let o : (length image ≡ length (image ++ r.contents) → ⊥) = λ e. omega (arith, length-append image r.contents, d.some) in
        refused_not (sym (elsewhere room line (length (image ++ r.contents)) image t g b i o) ∙ rw q at e')
    at_next (is_end {r = s} g b i p n) =
        let a : rest ≡ m = q ∙ ap (λ (u : List ℕ). m ++ u) p ∙ append-nil m in
        let k : image ≡ z = same_result (sym (read_last room line image g b i) ∙ rw a at e') in
        record { fields = r; end = s; formed = f; is_data_lem = rw k at d; end_formed = rw a g; is_end_lem = i; is = sym n ∙ ap (λ (u : List ℕ). u ++ r.contents) k }

module _ (room line : ℕ) (x y z rest : List ℕ) where
  lost : {l : List ℕ} → LineAt room line x l rest y → reading room line x [] rest ≡ result z → LastData y l rest z
  lost (is_data f b d h n) e = lost_data room line x rest y z f d n e (first rest)
  lost (is_end f b d n q) e = refused_not (sym (read_stops room line x [] [] (λ i e. omega arith)) ∙ rw n at e)

  doubled : {l : List ℕ} → WholeLine l → LineAt room line x l rest y → reading room line x [] (l ++ (l ++ rest)) ≡ result z → ⊥
  doubled {l} w (is_data {r = r} f b d h n) e =
      let o : (length (x ++ r.contents) ≡ length x → ⊥) = λ e. omega (arith, length-append x r.contents, d.some) in
      refused_not (sym (read_data room line x (l ++ rest) f b d h ∙ elsewhere room (line + 1) (length x) (x ++ r.contents) rest f b d o) ∙ e)
  doubled {l} w (is_end f b d n q) e = refused_not (sym (end_goes_on room line x (l ++ rest) f b d (omega (arith, length-append l rest, whole_length w))) ∙ e)

  exchanged : {l m : List ℕ} → WholeLine l → WholeLine m → LineAt room line x l (m ++ rest) y → reading room line x [] (m ++ (l ++ rest)) ≡ result z
      → ⊥
  exchanged {l} {m} v w (is_end f b d n q) e = omega (arith, ap length n, length-append m rest, whole_length w)
  exchanged {l} {m} v w (is_data {r = r} f b d h n) e = at_next (line_at room (line + 1) (x ++ r.contents) rest y w n)
    where
      at_next : LineAt room (line + 1) (x ++ r.contents) m rest y → ⊥
      at_next (is_data g c i k p) =
          let o : (length x ≡ length (x ++ r.contents) → ⊥) = λ e. omega (arith, length-append x r.contents, d.some) in
          refused_not (sym (elsewhere room line (length (x ++ r.contents)) x (l ++ rest) g c i o) ∙ e)
      at_next (is_end g c i k p) = refused_not (sym (end_goes_on room line x (l ++ rest) g c i (omega (arith, length-append l rest, whole_length v))) ∙ e)

-- ---- good texts

-- two good texts with the same lines before, the first at its next line, the second where that begins
record Found (image other line rest text : List ℕ) : Type 0 where
  number : ℕ
  held : List ℕ
  first_is : LineAt (length image + length other) number held line rest image
  second_is : reading (length image + length other) number held [] text ≡ result other

found : (image other rest text : List ℕ) {before line : List ℕ} → WholeLines before → WholeLine line
    → GoodText image (before ++ (line ++ rest)) → GoodText other (before ++ text) → Found image other line rest text
found image other rest text {before} {line} lines w g g' =
    let room : ℕ = length image + length other in
    let e = reads_good room g (omega arith) in
    let p = past room 1 [] (line ++ rest) image lines (omega (arith, length-append line rest, whole_length w)) e in
    record {
      number = p.line';
      held = p.image';
      first_is = line_at room p.line' p.image' rest image w (sym (p.same (line ++ rest)) ∙ e);
      second_is = sym (p.same text) ∙ reads_good room g' (omega arith);
    }

module _ (image other before rest : List ℕ) (lines : WholeLines before) where
  abbrev room : ℕ
  room = length image + length other

  -- two good texts, one of which lacks a line: it held the last data of the other's image
  pub one_lost : (line : List ℕ) → WholeLine line → GoodText image (before ++ line ++ rest) → GoodText other (before ++ rest)
      → LastData image line rest other
  one_lost line w g g' =
      let f = found image other rest rest lines w (rw (append_assoc before line rest) at g) g' in
      lost room f.number f.held image other rest f.first_is f.second_is

  -- no good text is another with one line doubled
  pub one_doubled : (line : List ℕ) → WholeLine line → GoodText image (before ++ line ++ rest) → GoodText other (before ++ line ++ line ++ rest) → ⊥
  one_doubled line w g g' =
      let t : before ++ line ++ line ++ rest ≡ before ++ (line ++ (line ++ rest)) = simp append_assoc in
      let f = found image other rest (line ++ (line ++ rest)) lines w (rw (append_assoc before line rest) at g) (rw t at g') in
      doubled room f.number f.held image other rest w f.first_is f.second_is

  -- no good text is another with two neighbouring lines exchanged
  pub two_exchanged : (line after : List ℕ) → WholeLine line → WholeLine after → GoodText image (before ++ line ++ after ++ rest)
      → GoodText other (before ++ after ++ line ++ rest) → ⊥
  two_exchanged line after v w g g' =
      let s : before ++ line ++ after ++ rest ≡ before ++ (line ++ (after ++ rest)) = simp append_assoc in
      let t : before ++ after ++ line ++ rest ≡ before ++ (after ++ (line ++ rest)) = simp append_assoc in
      let f = found image other (after ++ rest) (after ++ (line ++ rest)) lines v (rw s at g) (rw t at g') in
      exchanged room f.number f.held image other rest v w f.first_is f.second_is
