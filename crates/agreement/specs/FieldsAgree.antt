-- Numbers among bytes, and sums of numbers: the definitions' are document 01's.
use Rattle.std.specs.Prelude.{◌≡◌, refl, List, ℕ, zero, suc, ◌+◌, ◌*◌, ◌^◌, ◌≤◌, ◌<◌, leb, length, take, drop}
use Rattle.std.proofs.Common.{sym, ap, ◌∙◌, add-one, arith, drop_of_length-le, drop-cons}
use Rattle.std.proofs.Math.Path.{fun_ext}
use Rattle.std.proofs.Math.ListN.{get_or-eq_default}
use Rattle.std.proofs.Math.Seq.{take-length, take-nil}
use Rattle.paper.specs.Fields.{number, signed, sum_from}
use Rattle.laws.specs.Cases.{split, decide}
use Rattle.laws.specs.Order.{less_otherwise}
use Rattle.laws.specs.Sums.{total}
use Rattle.numbers.specs.Fields.{little_endian, number_at, twos_complement, signed_at}
use Rattle.numbers.specs.FieldsLaws.{byte_at_lem, number_of_halves}

number_is : (w : ℕ) (l : List ℕ) (place : ℕ) → number w l place ≡ number_at w l place
unfolding number number_at little_endian
number_is zero l place = refl
number_is (suc w) l place =
    let next : 1 + w ≡ suc w = omega arith in
    rw next at (number_of_halves 1 w l place (sym (byte_at_lem l place)) (number_is w l (place + 1)))

signed_is : (w : ℕ) (l : List ℕ) (place : ℕ) → signed w l place ≡ signed_at w l place
unfolding signed twos_complement
signed_is w l place =
    rw (number_is w l place, less_otherwise (256 ^ w) (2 * number_at w l place))
    (decide (leb (256 ^ w) (2 * number_at w l place)) (λ e. rw e) (λ e. rw e))

-- as functions, so that one rewrite turns every field of a statement
pub number_same : number ≡ number_at
number_same = fun_ext (λ w. fun_ext (λ l. fun_ext (λ place. number_is w l place)))

pub signed_same : signed ≡ signed_at
signed_same = fun_ext (λ w. fun_ext (λ l. fun_ext (λ place. signed_is w l place)))

-- ---- sums

pub sum_is : (count : ℕ) (l : List ℕ) (place : ℕ) → sum_from count l place ≡ total (take count (drop place l))
unfolding sum_from total
sum_is zero l place = refl
sum_is (suc count) l place =
    split (length l) place
    (λ (h : length l ≤ place).
    let past : length l ≤ place + 1 = omega arith in
    rw (drop_of_length-le l h, get_or-eq_default l 0 h, sum_is count l (place + 1), drop_of_length-le l past, take-nil {A = ℕ} count))
    (λ (h : place < length l). rw (drop-cons l place 0 h, sum_is count l (place + 1), add-one place))

-- all of a list
pub sum_of_all : (l : List ℕ) → sum_from (length l) l 0 ≡ total l
sum_of_all l = sum_is (length l) l 0 ∙ ap total (take-length l)
