-- A text taken by lines makes of a panel what the whole text makes of it.
use Rattle.std.specs.Prelude.{◌≡◌, false, ℕ, zero, suc, ◌+◌, ◌-◌, ◌%◌, ◌^◌, ◌≤◌, ◌<◌, min, eqb, drop, get_or, set, replicate, Err, Ok}
use Rattle.std.proofs.Math.Path.{refl}
use Rattle.std.proofs.Common.{sym, ap, ◌∙◌, ne_eqb, length-append, length-set, take_all}
use mathlib.Core.List.{List, [], ◌∷◌, ◌++◌}
use native.Mathlib.Omega.{arith}
use Rattle.std.proofs.Math.Nat.{sub-zero}
use Rattle.std.proofs.Math.ListN.{length}
use Rattle.std.proofs.lemmas.List.{length-replicate}
use Rattle.std.proofs.Math.Seq.{take_at, drop-append-add, paste}
use Rattle.limits.specs.Limits.{largest_image}
use Rattle.refusals.specs.declared.Refusal.{Refusal}
use Rattle.refusals.specs.Answers.{Verdict}
use Rattle.refusals.specs.Refusals.{refused, checked}
use Rattle.hextext.specs.Answers.{LineRecord}
use Rattle.hextext.specs.declared.Record.TheVariants.{Data, End}
use Rattle.hextext.specs.Lines.{lines_of, line_record, line_data, Progress, under_way, whole, stopped, after_line, after_lines, at_end}
use Rattle.promises.specs.LinesLaws.{lines_read}
use Rattle.panel.specs.Verdict.{verdict_of}
use Rattle.panel.specs.Load.{judged, load_text}
use Rattle.lamp.specs.Panel.{text_whole, is_lit, Standing, standing, ended}
use Rattle.lamp.specs.Panel.{under_way as panel_under_way}
use Rattle.lamp.specs.Events.{text_loaded, text_begun, first_kept, first_withheld, next_taken, line_taken, lines_taken, image_judged, whole_judged, text_ended}
use Rattle.lamp.specs.LoadsLaws.{data_fits}

-- ---- what a panel and its buffer are, by how far the text has come

-- the image so far without its first byte, and zeros
abbrev pub buffer_of : (size : ℕ) (image : List ℕ) → List ℕ
buffer_of size image = set image 0 0 ++ replicate (size - length image) 0

abbrev pub standing_of : (level size : ℕ) → Progress → Standing
standing_of level size (under_way lines image) = standing (panel_under_way level lines (length image) (get_or image 0 0)) (buffer_of size image)
standing_of level size (whole lines image) = standing (text_whole level lines (length image) (get_or image 0 0)) (buffer_of size image)
standing_of level size (stopped r) = ended level size (refused r)

-- each good line but the last has a byte of the image at least, and the image has room
pub data Counted (size : ℕ) : Progress → Type 0 where
  counted_under_way : {lines : ℕ} {image : List ℕ} → lines ≤ length image → length image ≤ min largest_image size → Counted size (under_way lines image)
  counted_whole : {lines : ℕ} {image : List ℕ} → lines ≤ length image + 1 → length image ≤ min largest_image size → Counted size (whole lines image)
  counted_stopped : {r : Refusal} → Counted size (stopped r)

drop_replicate : (n m : ℕ) → drop n (replicate {A = ℕ} m 0) ≡ replicate (m - n) 0
drop_replicate zero m = rw (sub-zero m)
drop_replicate (suc n) zero = let e : zero - suc n ≡ 0 = omega arith in rw e
drop_replicate (suc n) (suc m) = let e : suc m - suc n ≡ m - n = omega arith in rw e (drop_replicate n m)

zero_again : (n : ℕ) → set (replicate {A = ℕ} n 0) 0 0 ≡ replicate n 0
zero_again zero = refl
zero_again (suc n) = refl

zeros_first : (n : ℕ) → get_or (replicate {A = ℕ} n 0) 0 0 ≡ 0
zeros_first zero = refl
zeros_first (suc n) = refl

not_first : (a : ℕ) (image : List ℕ) → eqb (length {A = ℕ} (a ∷ image)) 0 ≡ false
not_first a image = ne_eqb (length {A = ℕ} (a ∷ image)) 0 (λ z. omega arith)

module _ (size : ℕ) where
  pub buffer_size : (image : List ℕ) → length image ≤ size → length (buffer_of size image) ≡ size
  buffer_size image h =
      omega (arith, length-append (set image 0 0) (replicate (size - length image) 0), length-set image 0 0, length-replicate {A = ℕ} (size - length image) 0)

  first_zero : (image : List ℕ) → get_or (buffer_of size image) 0 0 ≡ 0
  first_zero [] = zeros_first (size - 0)
  first_zero (a ∷ image) = refl

  -- data put after the image
  put_more : (image bytes : List ℕ) (n : ℕ) → length bytes ≡ n
      → paste (buffer_of size image) (length image) bytes n ≡ set image 0 0 ++ bytes ++ replicate (size - length (image ++ bytes)) 0
  put_more image bytes n e =
      let front : List ℕ = set image 0 0 in
      let zeros : List ℕ = replicate (size - length image) 0 in
      let same : length front ≡ length image = length-set image 0 0 in
      let left : size - length image - n ≡ size - length (image ++ bytes) = omega (arith, length-append image bytes) in
      let rest : drop (length image + n) (front ++ zeros) ≡ replicate (size - length (image ++ bytes)) 0 =
      ap (λ (k : ℕ). drop (k + n) (front ++ zeros)) (sym same) ∙ drop-append-add front zeros n ∙ drop_replicate n (size - length image)
      ∙ ap (λ (k : ℕ). replicate k 0) left in
      rw (take_at front zeros (length image) same, rest, take_all n bytes (omega arith))

  -- and the first byte of all withheld
  put_withheld : (image bytes : List ℕ) (n : ℕ) → 1 ≤ n → length bytes ≡ n
      → first_withheld (length image) (paste (buffer_of size image) (length image) bytes n) ≡ buffer_of size (image ++ bytes)
  put_withheld [] [] n h e = absurd (omega arith)
  put_withheld [] (b ∷ bytes) n h e = ap (λ (l : List ℕ). set l 0 0) (put_more [] (b ∷ bytes) n e)
  put_withheld (a ∷ image) bytes n h e = rw (not_first a image) (put_more (a ∷ image) bytes n e)

  first_kept_lem : (image bytes : List ℕ) → first_kept (length image) bytes (get_or image 0 0) ≡ get_or (image ++ bytes) 0 0
  first_kept_lem [] bytes = refl
  first_kept_lem (a ∷ image) bytes = rw (not_first a image)

-- ---- one line

module _ (level size : ℕ) where
  abbrev room : ℕ
  room = min largest_image size

  -- the step of the panel is the step of the text, and counts on
  pub record Steps (line : List ℕ) (progress : Progress) : Type 0 where
    pub same : line_taken line (standing_of level size progress) ≡ standing_of level size (after_line room line progress)
    pub counts : Counted size (after_line room line progress)

  small_line : (lines : ℕ) → lines < 5000 → (lines + 1) % 2 ^ 64 ≡ lines + 1
  small_line lines h = omega arith

  step_under_way : (line : List ℕ) (lines : ℕ) (image : List ℕ) → lines ≤ length image → length image ≤ room → Steps line (under_way lines image)
  unfolding line_taken next_taken after_line
  step_under_way line lines image h k = by (line_record room (length image) line) refl
    where
      long : length (buffer_of size image) ≡ size
      long = buffer_size size image (omega arith)

      next : (lines + 1) % 2 ^ 64 ≡ lines + 1
      next = small_line lines (omega arith)

      by : (judged : LineRecord) → line_record room (length image) line ≡ judged → Steps line (under_way lines image)
      by (Ok (Data n)) e =
          let f = data_fits room (length image) line n e in
          let more = length-append image (line_data line) in
          record {
            same =
                rw (
                  long,
                  e,
                  next,
                  first_kept_lem size image (line_data line),
                  put_withheld size image (line_data line) n f.some f.all,
                  more,
                  f.all,
                );
            counts =
                rw e (counted_under_way {lines = lines + 1} {image = image ++ line_data line} (omega (arith, more, f.all, f.some))
                (omega (arith, more, f.all, f.fits)));
          }
      by (Ok End) e = record { same = rw (long, e, next); counts = rw e (counted_whole {lines = lines + 1} {image = image} (omega arith) k) }
      by (Err number) e = record { same = rw (long, e, next, long); counts = rw e counted_stopped }

  pub step : (line : List ℕ) (progress : Progress) → Counted size progress → Steps line progress
  unfolding line_taken after_line
  step line (under_way lines image) (counted_under_way h k) = step_under_way line lines image h k
  step line (whole lines image) (counted_whole h k) =
      record { same = rw (buffer_size size image (omega arith), small_line lines (omega arith)); counts = counted_stopped }
  step line (stopped r) c = record { same = refl; counts = counted_stopped }

  pub steps : (lines : List (List ℕ)) (progress : Progress) → Counted size progress
      → (lines_taken lines (standing_of level size progress) ≡ standing_of level size (after_lines room lines progress))
      × Counted size (after_lines room lines progress)
  unfolding lines_taken after_lines
  steps [] progress c = (refl, c)
  steps (line ∷ lines) progress c =
      let s = step line progress c in
      let t = steps lines (after_line room line progress) s.counts in
      (ap (lines_taken lines) s.same ∙ t.0, t.1)

  -- ---- the end

  -- the image with its first byte back in its place
  restored_is : (image : List ℕ) → set (buffer_of size image) 0 (get_or image 0 0) ≡ image ++ replicate (size - length image) 0
  restored_is [] = zero_again (size - 0)
  restored_is (a ∷ image) = refl

  judged_is : (image : List ℕ) → length image ≤ room → (v : Verdict) → verdict_of level image ≡ v
      → image_judged (verdict_of level image) level image (image ++ replicate (size - length image) 0)
      ≡ ended level size (checked (verdict_of level image) image)
  judged_is image h (Ok tt) e = rw e
  judged_is image h (Err r) e =
      let long : length (image ++ replicate (size - length image) 0) ≡ size =
      omega (arith, length-append image (replicate (size - length image) 0), length-replicate {A = ℕ} (size - length image) 0) in
      rw (e, long)

  pub end_is : (progress : Progress) → Counted size progress → text_ended (standing_of level size progress) ≡ ended level size (judged level (at_end progress))
  unfolding text_ended whole_judged
  end_is (under_way lines image) (counted_under_way h k) = rw (buffer_size size image (omega arith), small_line lines (omega arith))
  end_is (whole lines image) (counted_whole h k) =
      rw (restored_is image, take_at image (replicate (size - length image) 0) (length image) refl) (judged_is image k (verdict_of level image) refl)
  end_is (stopped r) c = refl

  -- ---- what stays, and the lamp

  pub of_level : (progress : Progress) → (standing_of level size progress).panel.level ≡ level
  of_level (under_way lines image) = refl
  of_level (whole lines image) = refl
  of_level (stopped r) = refl

  pub of_size : (progress : Progress) → Counted size progress → length (standing_of level size progress).buffer ≡ size
  of_size (under_way lines image) (counted_under_way h k) = buffer_size size image (omega arith)
  of_size (whole lines image) (counted_whole h k) = buffer_size size image (omega arith)
  of_size (stopped r) c = length-replicate {A = ℕ} size 0

  pub of_lamp : (progress : Progress) → is_lit (standing_of level size progress).panel ≡ false
  of_lamp (under_way lines image) = refl
  of_lamp (whole lines image) = refl
  of_lamp (stopped r) = refl

  -- the first byte of the buffer is 0
  pub of_first : (progress : Progress) → get_or (standing_of level size progress).buffer 0 0 ≡ 0
  of_first (under_way lines image) = first_zero size image
  of_first (whole lines image) = first_zero size image
  of_first (stopped r) = zeros_first size

-- ---- from the beginning

-- after any pieces, in a buffer of `size` bytes
abbrev pub comes_to : (size : ℕ) (pieces : List (List ℕ)) → Progress
comes_to size pieces = after_lines (min largest_image size) pieces (under_way 0 [])

begun_counted : (size : ℕ) → Counted size (under_way 0 [])
begun_counted size = counted_under_way {lines = 0} {image = []} (omega arith) (omega arith)

pub pieces_counted : (size : ℕ) (pieces : List (List ℕ)) → Counted size (comes_to size pieces)
pieces_counted size pieces = (steps 0 size pieces (under_way 0 []) (begun_counted size)).1

module _ (s : Standing) where
  abbrev size : ℕ
  size = length s.buffer

  abbrev level : ℕ
  level = s.panel.level

  pub begun_is : text_begun s ≡ standing_of level size (under_way 0 [])
  unfolding text_begun
  begun_is = let e : size - 0 ≡ size = omega arith in rw e

  pub pieces_taken_lem : (pieces : List (List ℕ)) → lines_taken pieces (text_begun s) ≡ standing_of level size (comes_to size pieces)
  pieces_taken_lem pieces = ap (lines_taken pieces) begun_is ∙ (steps level size pieces (under_way 0 []) (begun_counted size)).0

  pub pieces_ended : (pieces : List (List ℕ)) → text_ended (lines_taken pieces (text_begun s)) ≡ ended level size (judged level (at_end (comes_to size pieces)))
  pieces_ended pieces = ap text_ended (pieces_taken_lem pieces) ∙ end_is level size (comes_to size pieces) (pieces_counted size pieces)

  -- begin, the lines of a text one by one, and end make of a panel what the whole text makes of it
  pub by_lines_whole : (text : List ℕ) → text_ended (lines_taken (lines_of text) (text_begun s)) ≡ text_loaded text s
  unfolding text_loaded load_text
  by_lines_whole text = pieces_ended (lines_of text) ∙ rw (lines_read size text)
