-- A place as C gets it.
use Rattle.std.specs.Prelude.{Option, is_some}
use Rattle.finder.specs.declared.Place.{Place}
use Rattle.finder.specs.declared.for_c.PlaceForC.{PlaceForC}
use Rattle.finder.specs.Places.{start_of, length_of}

abbrev pub place_for_c : Option Place → PlaceForC
place_for_c place = record { there = is_some place; offset = start_of place; length = length_of place }
