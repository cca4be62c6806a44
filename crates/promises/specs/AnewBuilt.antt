-- An image can be laid out anew: the builder does it, wherever sections and bytes keep to their limits; and there is one way only.
use Rattle.std.specs.Prelude.{true, false, cond, List, [], ◌∷◌, ◌⊎◌, ◌≡◌, refl, ℕ, ◌+◌, ◌*◌, ◌≤◌, eqb, length, Ok}
use Rattle.std.proofs.Common.{inl, inr, subst, sym, ap, ◌∙◌, le_refl, arith, eqb-true, eq-eqb}
use Rattle.std.proofs.Math.Option.{Option, none, some}
use Rattle.paper.specs.Words.{Not}
use Rattle.paper.specs.Image.{HasBody}
use Rattle.laws.specs.Bytes.{Bytes}
use Rattle.laws.specs.Cases.{decide, never}
use Rattle.refusals.specs.Refusals.{result}
use Rattle.image.specs.Layout.{layout_verdict}
use Rattle.image.specs.Sections.{Section, sections, bodies_of, image_of, Fit}
use Rattle.image.specs.Find.{body_of, is_there}
use Rattle.image.specs.OrderLaws.{Ascending, none_below}
use Rattle.image.proofs.SectionsRoundTrip.{image_length, image_good, sections_of_image}
use Rattle.image.proofs.ImageRoundTrip.{sections_fit}
use Rattle.builder.specs.Build.{build_image}
use Rattle.builder.specs.Lines.{lines_of}
use Rattle.builder.specs.BuildLaws.{passes, lines_counted, lines_rise, lines_total, sections_again}
use Rattle.agreement.specs.KindsAgree.{found_is_had, had_is_found, none_had}
use Rattle.agreement.specs.LayoutAgrees.{layout_accepted_exactly}
use Rattle.agreement.specs.SameBodies.{laid_once}
use Rattle.agreement.specs.VerdictAgrees.{verdict_accepted_exactly, accepted_readable}
use Rattle.image.specs.Merged.{merged, holds, EachKind, EachOnce as EachKindOnce, IsKind}
use Rattle.image.specs.MergedLaws.{body_of_merged, merged_fit}
use Rattle.promises.specs.LaidOutAnew.{Among, HasSection, EachOnce, FurtherSections, LaidAnew}

-- ---- a section among others, and its body

found_among : (kind : ℕ) (body : List ℕ) (ss : List Section) → body_of kind ss ≡ some body → Among kind body ss
unfolding body_of
found_among kind body [] e = let z : ◌≡◌ {A = ℕ} 0 1 = cc in absurd (omega arith)
found_among kind body (s ∷ ss) e =
    decide (eqb kind s.kind)
    (λ f. let same : s.body ≡ body = cc (rw f at e) in inl (eqb-true kind s.kind f, sym same))
    (λ f. inr (found_among kind body ss (rw f at e)))

among_held : (kind : ℕ) (body : List ℕ) (ss : List Section) → Among kind body ss → holds kind ss ≡ true
unfolding body_of
among_held kind body [] a = elim a [ ]
among_held kind body (s ∷ ss) (inl (e, f)) = rw (eq-eqb kind s.kind e)
among_held kind body (s ∷ ss) (inr a) = decide (eqb kind s.kind) (λ e. rw e) (λ e. rw e (among_held kind body ss a))

-- kinds that stand once
not_held : (kind : ℕ) (ss : List Section) → Not (HasSection kind ss) → holds kind ss ≡ false
not_held kind ss n = by (body_of kind ss) refl
  where
    by : (o : Option (List ℕ)) → body_of kind ss ≡ o → is_there o ≡ false
    by none e = refl
    by (some body) e = absurd (n (body, found_among kind body ss e))

pub among_found : (kind : ℕ) (body : List ℕ) (ss : List Section) → EachOnce ss → Among kind body ss → body_of kind ss ≡ some body
unfolding body_of
among_found kind body [] once a = elim a [ ]
among_found kind body (s ∷ ss) once (inl (e, f)) = rw (eq-eqb kind s.kind e, f)
among_found kind body (s ∷ ss) once (inr a) =
    decide (eqb kind s.kind)
    (λ e. absurd (once.0 (body, subst (λ (k : ℕ). Among k body ss) (eqb-true kind s.kind e) a)))
    (λ e. rw e (among_found kind body ss once.1 a))

once_tested : (ss : List Section) → EachOnce ss → EachKindOnce ss
once_tested [] once = tt
once_tested (s ∷ ss) once = (not_held s.kind ss once.0, once_tested ss once.1)

-- a property of every section's kind
each : (P : ℕ → Type 0) (ss : List Section) → ((kind : ℕ) → HasSection kind ss → P kind) → EachKind P ss
each P [] f = tt
each P (s ∷ ss) f = (f s.kind (s.body, inl (refl, refl)), each P ss (λ kind (body, a). f kind (body, inr a)))

-- sections of rising kinds
pub ascending_once : (previous : ℕ) (ss : List Section) → Ascending previous ss → EachOnce ss
ascending_once previous [] rising = tt
ascending_once previous (s ∷ ss) rising = (
  λ (body, a). never (rw (none_below s.kind s.kind ss rising.1 (le_refl s.kind)) at (among_held s.kind body ss a)),
  ascending_once s.kind ss rising.1,
)

-- ---- the builder lays it out

module _ (level : ℕ) (image : List ℕ) (further : List Section) (bytes : Bytes image) (f : FurtherSections level image further) (once : EachOnce further)
    (kinds : (kind : ℕ) → HasSection kind further → IsKind kind) (few : length (sections image) + length further ≤ 16)
    (room : 2 + 8 * (length (sections image) + length further) + (length (bodies_of (sections image)) + length (bodies_of further)) ≤ 4096) where
  abbrev all : List Section
  all = merged (sections image) further

  good : layout_verdict image ≡ Ok tt
  good = (accepted_readable level image ((verdict_accepted_exactly level image).1 f.accepted)).good

  new : EachKind (λ kind. holds kind (sections image) ≡ false) further
  new = each (λ kind. holds kind (sections image) ≡ false) further (λ kind s. ap is_there (none_had image kind (f.not_held kind s)))

  fit : Fit all
  fit = merged_fit (sections image) further (sections_fit image bytes good) (each IsKind further kinds) (once_tested further once) new few room

  body_is : (kind : ℕ) → body_of kind all ≡ cond (holds kind further) (body_of kind further) (body_of kind (sections image))
  body_is kind = body_of_merged kind (sections image) further (once_tested further once) new

  -- It can be laid out anew,
  pub anew_laid : LaidAnew image further (image_of (merged (sections image) further))
  anew_laid =
      record {
        good = (layout_accepted_exactly (image_of all)).0 (image_good all fit);
        has = λ kind body. (
          λ h. old_or_new kind body (sym (body_is kind) ∙ rw (sections_of_image all) at (had_is_found (image_of all) kind (image_good all fit) body h)),
          λ w. found_is_had (image_of all) kind body (rw (sections_of_image all) (body_is kind ∙ has_body kind body w)),
        );
      }
    where
      old_or_new : (kind : ℕ) (body : List ℕ) → cond (holds kind further) (body_of kind further) (body_of kind (sections image)) ≡ some body
          → HasBody image kind body ⊎ Among kind body further
      old_or_new kind body e =
          decide (holds kind further) (λ t. inr (found_among kind body further (rw t at e))) (λ t. inl (found_is_had image kind body (rw t at e)))

      has_body : (kind : ℕ) (body : List ℕ) → HasBody image kind body ⊎ Among kind body further
          → cond (holds kind further) (body_of kind further) (body_of kind (sections image)) ≡ some body
      has_body kind body (inl old) =
          decide (holds kind further)
          (λ t. by (body_of kind further) refl t)
          (λ t. rw t (had_is_found image kind good body old))
        where
          by : (o : Option (List ℕ)) → body_of kind further ≡ o → is_there o ≡ true
              → cond (holds kind further) (body_of kind further) (body_of kind (sections image)) ≡ some body
          by none e t = never t
          by (some b) e t = absurd (f.not_held kind (b, found_among kind b further e) old.has)
      has_body kind body (inr a) = rw (among_held kind body further a) (among_found kind body further once a)

  -- by the builder, in any buffer that has room for it,
  pub anew_built : (size : ℕ) → length (image_of (merged (sections image) further)) ≤ size
      → build_image size (lines_of (merged (sections image) further)) (bodies_of (merged (sections image) further))
      ≡ result (image_of (merged (sections image) further))
  unfolding build_image
  anew_built size enough =
      rw (
        passes size (lines_of all) (bodies_of all)
            (record {
              some = omega (arith, fit.some, lines_counted all);
              few = omega (arith, fit.few, lines_counted all);
              rise = lines_rise 0 all fit.rising;
              whole = lines_total all;
              limit = omega (arith, fit.room, lines_counted all);
              room = omega (arith, image_length all, lines_counted all);
            }),
        sections_again all,
      )

-- and in one way only: any two images of bytes that are laid out anew so are the same, byte for byte.
pub anew_once : (image : List ℕ) (further : List Section) (one other : List ℕ) → Bytes one → Bytes other
    → LaidAnew image further one → LaidAnew image further other → one ≡ other
anew_once image further one other b b' l l' =
    laid_once one other b b' l.good l'.good
    (λ kind body. (λ h. (l'.has kind body).1 ((l.has kind body).0 h), λ h. (l.has kind body).1 ((l'.has kind body).0 h)))
