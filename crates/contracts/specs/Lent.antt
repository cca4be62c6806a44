-- The law of lent bytes at functions of each shape that the demands are about: the image that is written, judged, searched or read from, the text, the bodies.
use Rattle.std.specs.Prelude.{List, ◌≡◌, ℕ, ◌^◌, ◌<◌, length}
use Rattle.laws.specs.Bytes.{Bytes}
use Rattle.calls.specs.Call.{Call, shared, next}
use Rattle.calls.specs.CallLaws.{lent_bytes}
use Rattle.calls.specs.LendLaws.{lendable}
use Rattle.hexread.specs.contracts as hexread
use Rattle.hexwrite.specs.contracts as hexwrite
use Rattle.layout.specs.contracts as layout
use Rattle.finder.specs.contracts as finder
use Rattle.builder.specs.contracts as builder
use Rattle.panel.specs.contracts as panel

pub written_bytes : (call : Call hexwrite.write.signature) → Bytes call.arguments.0.now
written_bytes call = lent_bytes call (shared 0 tt)

pub text_bytes : (call : Call hexread.read.signature) → Bytes call.arguments.0.now
text_bytes call = lent_bytes call (shared 0 tt)

pub layout_bytes : (call : Call layout.layout.signature) → Bytes call.arguments.0.now
layout_bytes call = lent_bytes call (shared 0 tt)

pub find_bytes : (call : Call finder.find.signature) → Bytes call.arguments.0.now
find_bytes call = lent_bytes call (shared 0 tt)

pub bodies_bytes : (call : Call builder.build.signature) → Bytes call.arguments.1.0.now
bodies_bytes call = lent_bytes call (next (shared 1 tt))

pub reading_bytes : (call : Call panel.reading.signature) → Bytes call.arguments.0.now
reading_bytes call = lent_bytes call (shared 0 tt)

-- And any image can be lent to the writer, with any buffer.
pub write_lendable : (image text : List ℕ) → Bytes image → Bytes text → length image < 2 ^ 63 → length text < 2 ^ 63
    → ∥ ((call : Call hexwrite.write.signature) × (call.arguments.0.now ≡ image) × (call.arguments.1.0.now ≡ text)) ∥₁
write_lendable = lendable _
