-- The finder's definitions say what document 01 says: a kind's body, where it stands, and yes exactly where the layout is good and the kind is there.
use Rattle.std.specs.Prelude.{List, ◌↔◌, ◌≡◌, refl, Err, Ok}
use Rattle.std.proofs.Math.Option.{Option, none, some}
use Rattle.std.proofs.Common.{sym, ◌∙◌, arith}
use Rattle.std.proofs.Math.Path.{ap}
use Prim.Native.Nat.{ℕ}
use Rattle.paper.specs.Words.{Not}
use Rattle.paper.specs.Table.{NoneGiven}
use Rattle.paper.specs.Image.{offset_of, HasKind, HasBody, layout_table}
use Rattle.refusals.specs.Answers.{Verdict}
use Rattle.image.specs.Contents.{line_count, offset_at}
use Rattle.image.specs.Layout.{layout_verdict}
use Rattle.image.specs.Sections.{sections}
use Rattle.image.specs.Find.{body_of, where_good, found, offset_from, found_offset}
use Rattle.image.proofs.FindLaws.{found_good, offset_good}
use Rattle.agreement.specs.FieldsAgree.{number_same}
use Rattle.agreement.specs.LayoutAgrees.{layout_accepted_exactly}
use Rattle.agreement.specs.KindsAgree.{given_by_line, line_gives, found_is_had, had_is_found}

-- what is found says that the layout is good
good_where : {A : Type 0} (v : Verdict) (o : Option A) (a : A) → where_good v o ≡ some a → (v ≡ Ok tt) × (o ≡ some a)
good_where (Ok tt) o a e = (refl, e)
good_where (Err r) o a e = let z : ◌≡◌ {A = ℕ} 0 1 = cc in absurd (omega arith)

module _ (image : List ℕ) (kind : ℕ) where
  pub found_exactly : (body : List ℕ) → (found image kind ≡ some body) ↔ (NoneGiven (layout_table image) × HasBody image kind body)
  unfolding found
  found_exactly body = (
    λ e. let w = good_where (layout_verdict image) (body_of kind (sections image)) body e in
        ((layout_accepted_exactly image).0 w.0, found_is_had image kind body w.1),
    λ f. let good = (layout_accepted_exactly image).1 f.0 in found_good image kind good ∙ had_is_found image kind good body f.1,
  )

  pub absent_exactly : (found image kind ≡ none) ↔ Not (NoneGiven (layout_table image) × HasKind image kind)
  absent_exactly = (
    λ e f. let z : ◌≡◌ {A = ℕ} 0 1 = cc (e, (found_exactly _).1 (f.0, record { has = f.1; is = refl })) in omega arith,
    λ n. by n (found image kind) refl,
  )
    where
      by : Not (NoneGiven (layout_table image) × HasKind image kind) → (o : Option (List ℕ)) → found image kind ≡ o → o ≡ none
      by n none e = refl
      by n (some body) e = let f = (found_exactly body).0 e in absurd (n (f.0, f.1.has))

  pub offset_exactly : (offset : ℕ)
      → (found_offset image kind ≡ some offset) ↔ (NoneGiven (layout_table image) × ((h : HasKind image kind) × (offset ≡ offset_of image h.line)))
  unfolding found_offset offset_from
  offset_exactly offset =
      let from : (left i : ℕ) → Option ℕ = λ left i. offset_from image left i kind in (
        λ e. let w = good_where (layout_verdict image) (offset_from image (line_count image) 0 kind) offset e in
            let g = given_by_line image kind (offset_at image) from (λ i. refl) (λ left i. refl) offset w.1 in
            ((layout_accepted_exactly image).0 w.0, (g.0, rw number_same g.1)),
        λ f. let good = (layout_accepted_exactly image).1 f.0 in
            let here = line_gives image kind (offset_at image) from (λ i. refl) (λ left i. refl) good f.1.0 in
            offset_good image kind good ∙ here ∙ ap some (sym (rw number_same at f.1.1)),
      )
