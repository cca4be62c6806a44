-- The calls that there can be of a function, and the bytes that are lent to it.
use Rattle.std.specs.Prelude.{ℕ, List, [], ◌∷◌}
use contract.Lifetimes.{Lfts, Within}
use denote.Builtin.{SliceRef, SliceRefMut, u8}
use denote.RattleType.{Denots}
use denote.Signature.{Signature, Slot, types_at}
use denote.Triple.CanOwn.{CanOwn}
use denote.Triple.Clauses.{Ended, Lasts, AtExit, at_exit}
use denote.Triple.Entry.{Args, Res}
use borrow.Fn.World.{World}

-- A call of a function with this signature: arguments that a memory of the machine can hold, while their lifetimes last. Nothing of it is a caller's to test:
-- by `CallLaws.precondition_held` the arguments are held wherever a contract's precondition is met.
pub record Call (signature : Signature) : Type 2 where
  pub model : World
  pub lifetimes : Lfts signature.lifetimes
  pub arguments : Args signature lifetimes
  pub held : CanOwn model.𝓛 model.𝓜.mem signature lifetimes arguments

-- Where among the parameters a `&'j [u8]` stands, or a `&'j mut [u8]`.
pub data BytesAt {n : ℕ} : List (Slot n) → Type 2 where
  shared : (j : ℕ) (ok : Within n j) {ss : List (Slot n)} → BytesAt (SliceRef j ok u8 tt ∷ ss)
  buffer : (j : ℕ) (ok : Within n j) {ss : List (Slot n)} → BytesAt (SliceRefMut j ok u8 tt ∷ ss)
  next : {s : Slot n} {ss : List (Slot n)} → BytesAt ss → BytesAt (s ∷ ss)

-- What stands there as the function is called.
abbrev pub bytes_at : {n : ℕ} {ss : List (Slot n)} → BytesAt ss → (κs : Lfts n) → Denots (types_at ss κs) → List ℕ
bytes_at (shared j ok) κs a = a.0.now
bytes_at (buffer j ok) κs a = a.0.now
bytes_at (next p) κs a = bytes_at p κs a.1

abbrev pub lent : {signature : Signature} → Call signature → BytesAt signature.params → List ℕ
lent call p = bytes_at p call.lifetimes call.arguments

-- The signature of a function that takes a slice of bytes and a buffer.
abbrev pub SliceAndBuffer : (result : Slot 2) → Signature
SliceAndBuffer result = record { lifetimes = 2; outlives = []; params = SliceRef 0 tt u8 tt ∷ SliceRefMut 1 tt u8 tt ∷ []; result = result }

-- Of every call that there can be of a function, by its own contract: `learnt` is what its `ensures` tells a caller, r is the answer, and b
-- has what each lent buffer holds afterwards.
module _ (T : Ended) where
  abbrev pub EveryCall : (learnt : (κs : Lfts T.signature.lifetimes) → Args T.signature κs → Res T.signature κs → AtExit T κs → Type 0)
      → (says : (call : Call T.signature) → Res T.signature call.lifetimes → Lasts T call.lifetimes call.arguments → Type 0) → Type 2
  EveryCall learnt says =
      (call : Call T.signature) (r : Res T.signature call.lifetimes) (b : Lasts T call.lifetimes call.arguments)
      → learnt call.lifetimes call.arguments r (at_exit T call.lifetimes call.arguments b) → says call r b
