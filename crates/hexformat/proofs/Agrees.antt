-- The reader keeps to the format: which texts it reads and as which image, and which it refuses, by which number at which line.
use Rattle.std.specs.Prelude.{◌≡◌, ◌↔◌, List, ℕ, ◌≤◌, min, length}
use Rattle.std.proofs.Common.{sym, ap, ◌∙◌}
use Rattle.limits.specs.Limits.{largest_image}
use Rattle.refusals.specs.declared.Refusal.{Refusal}
use Rattle.refusals.specs.Refusals.{result, refused, refusal}
use Rattle.hextext.specs.Text.{read_text}
use Rattle.hexformat.specs.Format.{GoodText}
use Rattle.hexformat.specs.Faults.{Refuses}
use Rattle.hexformat.proofs.FormatSaysLaws.{format_says, reads_good, reads_refuses, refuses_known}

module _ (size : ℕ) (text : List ℕ) where
  -- a text is read as an image exactly where it is a good text of that image, and the image has room
  pub read_exactly : (image : List ℕ) → (read_text size text ≡ result image) ↔ (GoodText image text × (length image ≤ min largest_image size))
  unfolding read_text
  read_exactly image = (λ e. rw e at (format_says (min largest_image size) text), λ good. reads_good (min largest_image size) good.0 good.1)

  -- a text is refused by a number at a line exactly where that is its first fault
  pub refused_exactly : (number line : ℕ) → (read_text size text ≡ refused (refusal number line)) ↔ Refuses (min largest_image size) text number line
  unfolding read_text
  refused_exactly number line = (λ e. rw e at (format_says (min largest_image size) text), λ faulty. reads_refuses (min largest_image size) faulty)

  -- the reader knows four refusals, 1 to 4, each at a line from 1 on
  pub refused_known : (given : Refusal) → read_text size text ≡ refused given → (1 ≤ given.number) × (given.number ≤ 4) × (1 ≤ given.detail)
  unfolding read_text
  refused_known given e = refuses_known (rw e at (format_says (min largest_image size) text))

-- a text has one first fault at most
pub one_fault : (room : ℕ) (text : List ℕ) (number line number' line' : ℕ) → Refuses room text number line → Refuses room text number' line'
    → (number ≡ number') × (line ≡ line')
one_fault room text number line number' line' faulty faulty' =
    let e : refused (refusal number line) ≡ refused (refusal number' line') = sym (reads_refuses room faulty) ∙ reads_refuses room faulty' in
    let same : refusal number line ≡ refusal number' line' = cc in
    (ap (λ (r : Refusal). r.number) same, ap (λ (r : Refusal). r.detail) same)
