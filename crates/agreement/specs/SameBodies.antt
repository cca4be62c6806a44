-- An image of bytes with a good layout is told by its bodies: an image laid anew with the same bodies by kind is the same image.
use Rattle.std.specs.Prelude.{List, ◌↔◌, ◌≡◌, refl, ℕ, Ok}
use Rattle.std.proofs.Math.Option.{Option, none, some}
use Rattle.paper.specs.Table.{NoneGiven}
use Rattle.paper.specs.Image.{HasBody, layout_table}
use Rattle.laws.specs.Bytes.{Bytes}
use Rattle.image.specs.Layout.{layout_verdict}
use Rattle.image.specs.Sections.{sections}
use Rattle.image.specs.Find.{body_of}
use Rattle.image.proofs.ImageRoundTrip.{same_bodies_same_image}
use Rattle.agreement.specs.LayoutAgrees.{layout_accepted_exactly}
use Rattle.agreement.specs.KindsAgree.{found_is_had, had_is_found}

-- a kind's body is found in both images or in neither
pub found_same : (image image' : List ℕ) (kind : ℕ) → layout_verdict image ≡ Ok tt → layout_verdict image' ≡ Ok tt
    → ((body : List ℕ) → HasBody image kind body ↔ HasBody image' kind body) → body_of kind (sections image) ≡ body_of kind (sections image')
found_same image image' kind good good' same = by (body_of kind (sections image)) (body_of kind (sections image')) refl refl
  where
    there : (body : List ℕ) → body_of kind (sections image) ≡ some body → body_of kind (sections image') ≡ some body
    there body e = had_is_found image' kind good' body ((same body).0 (found_is_had image kind body e))

    back : (body : List ℕ) → body_of kind (sections image') ≡ some body → body_of kind (sections image) ≡ some body
    back body e = had_is_found image kind good body ((same body).1 (found_is_had image' kind body e))

    by : (o o' : Option (List ℕ)) → body_of kind (sections image) ≡ o → body_of kind (sections image') ≡ o' → o ≡ o'
    by (some body) o' e e' = cc (there body e)
    by none none e e' = refl
    by none (some body) e e' = cc (back body e')

module _ (image image' : List ℕ) where
  pub laid_once : Bytes image → Bytes image' → NoneGiven (layout_table image) → NoneGiven (layout_table image')
      → ((kind : ℕ) (body : List ℕ) → HasBody image kind body ↔ HasBody image' kind body) → image ≡ image'
  laid_once b b' laid laid' same =
      let good = (layout_accepted_exactly image).1 laid in
      let good' = (layout_accepted_exactly image').1 laid' in
      same_bodies_same_image image image' b b' good good' (λ kind. found_same image image' kind good good' (same kind))
