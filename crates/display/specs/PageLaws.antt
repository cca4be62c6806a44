-- What a function of the code has put on the page, by what its calls have put there.
use Rattle.std.specs.Prelude.{◌≡◌, List, ◌++◌, ℕ, suc, ◌+◌, ◌-◌, ◌*◌, ◌≤◌, ◌<◌, length, take, drop, Err, Ok}
use Rattle.std.proofs.Common.{sym, ap, ◌∙◌, append-nil, arith, le-leb, length-take}
use Rattle.std.proofs.lemmas.Bool.{lt-leb}
use Rattle.std.specs.Borrow.{Bor}
use Rattle.limits.specs.Limits.{largest_image, last_level, longest_shown_text}
use Rattle.laws.specs.Characters.{characters}
use Rattle.numbers.specs.Slices.{cleared_from}
use Rattle.refusals.specs.declared.Refusal.{Refusal}
use Rattle.refusals.specs.Answers.{Verdict}
use Rattle.refusals.specs.Answers.{Filled}
use Rattle.refusals.specs.Refusals.{result, held_after, Fills}
use Rattle.refusals.specs.RefusalsLaws.{refused_of, result_of}
use Rattle.hextext.specs.Text.{read_text}
use Rattle.image.specs.Layout.{layout_verdict}
use Rattle.image.specs.Find.{Found}
use Rattle.bodies.specs.declared.Identity.{Identity}
use Rattle.bodies.specs.Identity.{identity_of}
use Rattle.sets.specs.declared.Prescales.{Prescales}
use Rattle.sets.specs.Set.{prescales_of}
use Rattle.panel.specs.Verdict.{verdict_of}
use Rattle.panel.specs.GoodLayoutLaws.{accepted_first_kinds}
use Rattle.display.specs.declared.words.Page.{Page}
use Rattle.display.specs.Words.{printed, field, pair, two_digits}
use Rattle.display.specs.Page.{refused_words, identity_words, order_words, accepted_words, image_words, level_line, level_room, level_lines, text_refused, page_of, page_room}
use Rattle.display.specs.WordsLaws.{printed_then, four_printed}

-- ---- a line

-- a panel accepts no image whose layout is not good
pub verdict_laid : (level : ℕ) (image : List ℕ) (verdict : Verdict)
    → verdict ≡ verdict_of level image → verdict ≡ Ok tt → layout_verdict image ≡ Ok tt
verdict_laid level image verdict e a = (accepted_first_kinds level image verdict e a).good

module _ (page a b c d : Page) where
  pub identity_printed : (i : Identity) (body : List ℕ) (serial year : ℕ) → i ≡ identity_of body → serial ≡ i.serial → year ≡ i.year
      → printed a ≡ printed page ++ field (characters " serial ") serial
      → printed b ≡ printed a ++ field (characters " date ") year
      → printed c ≡ printed b ++ two_digits i.month
      → printed d ≡ printed c ++ two_digits i.day
      → printed d ≡ printed page ++ identity_words (identity_of body)
  unfolding identity_words
  identity_printed i body serial year e p q s y m t = rw (← e) (four_printed page a b c d _ _ _ _ (rw p at s) (rw q at y) m t)

  pub image_printed : (image first second third : Bor (List ℕ)) → Found image first 1 → Found image second 2 → Found image third 3
      → printed a ≡ printed page ++ identity_words (identity_of first.now)
      → printed b ≡ printed a ++ order_words (characters " pressure ") (prescales_of second.now)
      → printed c ≡ printed b ++ order_words (characters " temperature ") (prescales_of third.now)
      → printed d ≡ printed c ++ characters "\n"
      → printed d ≡ printed page ++ image_words image.now
  unfolding image_words accepted_words
  image_printed image first second third f g h w v u n = rw (← f.holds, ← g.holds, ← h.holds) (four_printed page a b c d _ _ _ _ w v u n)

module _ (page a b : Page) where
  module _ (number detail : ℕ) where
    pub refused_printed : printed a ≡ printed page ++ pair (characters " refused ") number detail → printed b ≡ printed a ++ characters "\n"
        → printed b ≡ printed page ++ refused_words number detail
    unfolding refused_words
    refused_printed = printed_then page a b (pair (characters " refused ") number detail) (characters "\n")

    pub text_refused_printed : printed a ≡ printed page ++ characters "text" → printed b ≡ printed a ++ refused_words number detail
        → printed b ≡ printed page ++ text_refused number detail
    unfolding text_refused
    text_refused_printed = printed_then page a b (characters "text") (refused_words number detail)

  module _ (level : ℕ) (image : List ℕ) (verdict : Verdict) (e : verdict ≡ verdict_of level image)
      (w : printed a ≡ printed page ++ field (characters "level ") level) where
    pub level_accepted : verdict ≡ Ok tt → printed b ≡ printed a ++ image_words image → printed b ≡ printed page ++ level_line level image
    unfolding level_line
    level_accepted k v = rw (← e, k) (printed_then page a b (field (characters "level ") level) (image_words image) w v)

    pub level_refused : (r : Refusal) → verdict ≡ Err r → printed b ≡ printed a ++ refused_words r.number r.detail
        → printed b ≡ printed page ++ level_line level image
    unfolding level_line
    level_refused r k v = rw (← e, k) (printed_then page a b (field (characters "level ") level) (refused_words r.number r.detail) w v)

pub orders_printed : (page a : Page) (set : Prescales) (words body : List ℕ) → set ≡ prescales_of body
    → printed a ≡ printed page ++ pair words set.pressure.order set.temperature.order → printed a ≡ printed page ++ order_words words (prescales_of body)
unfolding order_words
orders_printed page a set words body e w = rw (← e) w

-- ---- the lines of all levels

-- the loop's invariant: the lines of the levels before this one are on the page
pub record LevelsPrinted (page₀ : Page) (image : List ℕ) (page : Page) (level : ℕ) : Type 0 where
  pub some : 1 ≤ level
  pub within : level ≤ last_level + 1
  pub room : page.end + level_room ≤ level * level_room
  pub lines : printed page ≡ printed page₀ ++ level_lines (level - 1) image

pub levels_first : (page : Page) (image : List ℕ) → page.end ≡ 0 → LevelsPrinted page image page 1
unfolding level_lines
levels_first page image e = record { some = omega arith; within = omega arith; room = omega arith; lines = sym (append-nil (printed page)) }

module _ (page₀ : Page) (image : List ℕ) (page : Page) (level : ℕ) (h : LevelsPrinted page₀ image page level) where
  pub levels_room : level ≤ last_level → page.end + level_room ≤ page_room
  levels_room k = omega (arith, h.some, h.room)

  pub levels_more : (next : Page) → level ≤ last_level → printed next ≡ printed page ++ level_line level image
      → next.end ≤ page.end + level_room → LevelsPrinted page₀ image next (level + 1)
  unfolding level_lines
  levels_more next k e room = record { some = omega arith; within = omega arith; room = omega (arith, h.room); lines = by (level - 1) (omega (arith, h.some)) h.lines }
    where
      by : (before : ℕ) → level ≡ suc before → printed page ≡ printed page₀ ++ level_lines before image
          → printed next ≡ printed page₀ ++ level_lines (level + 1 - 1) image
      by before same lines =
          let last : level + 1 - 1 ≡ suc before = omega arith in
          rw last (printed_then page₀ page next (level_lines before image) (level_line (suc before) image) lines (rw same at e))

  pub levels_end : last_level < level → printed page ≡ printed page₀ ++ level_lines last_level image
  levels_end k = let all : level - 1 ≡ last_level = omega (arith, h.within) in rw all at h.lines

-- ---- the page

module _ (page r : Page) (given : List ℕ) where
  pub too_long_printed : longest_shown_text < length given → printed r ≡ printed page ++ text_refused 4 0 → printed r ≡ printed page ++ page_of given
  unfolding page_of
  too_long_printed h p = rw (lt-leb (length given) longest_shown_text h) p

  module _ (h : length given ≤ longest_shown_text) (answer : Filled) (before after : List ℕ)
      (f : Fills (read_text (length before) given) before answer after) (room : length before ≡ largest_image) where
    pub refusal_printed : (refusal : Refusal) → answer ≡ Err refusal
        → printed r ≡ printed page ++ text_refused refusal.number refusal.detail → printed r ≡ printed page ++ page_of given
    unfolding page_of
    refusal_printed refusal e p =
        rw (le-leb (length given) longest_shown_text h, ← room, refused_of (read_text (length before) given) before after answer f refusal e) p

    pub read_printed : (n : ℕ) (image : List ℕ) → answer ≡ Ok n → image ≡ take n (drop 0 after)
        → printed r ≡ printed page ++ level_lines last_level image → printed r ≡ printed page ++ page_of given
    unfolding page_of
    read_printed n image e i p =
        rw (le-leb (length given) longest_shown_text h, ← room, result_of (read_text (length before) given) before after answer f n e)
        (rw i at p)

module _ (words : List ℕ) (start page : Page) (z : start.end ≡ 0) (e : printed page ≡ printed start ++ words) where
  page_is : take page.end page.bytes ≡ words
  unfolding printed
  page_is = rw z at e

  pub page_ends : page.end ≡ length words
  page_ends = omega (arith, length-take page.end page.bytes, ap length page_is, page.within)

  -- the page once it is cleared after what is printed
  pub page_shown : (lent after : List ℕ) → after ≡ cleared_from page.end page.bytes → length page.bytes ≡ length lent
      → after ≡ held_after (length lent) (result words)
  page_shown lent after c long = c ∙ rw (page_is, long, page_ends)
