-- What a reply says of a path is written as the parameters that name it say. By whether a path was found.
use Prim.Native.Nat.{ℕ}
use mathlib.Core.Path.{◌≡◌, refl}
use mathlib.Core.Bool.{Bool, true, false}
use mathlib.Core.List.{List}
use lib.ListN.{length}
use Rattle.pcep_model.specs.Pcrep.{written_pcrep}
use Rattle.pcep_reply_writer.specs.declared.parts.Route.{Route}
use Rattle.pcep_reply_writer.specs.Lengths.{route_length}
use Rattle.pcep_reply_writer.specs.Routes.{is_path, addresses_of, nature_of, c_of, RouteIs}
use Rattle.pcep_reply_writer.specs.Writing.{reply_of}

pub same-length
    : (found : Bool) (addresses : List ℕ) (nature : ℕ) (c : Bool) (r : Route) → RouteIs found addresses nature c r
    → route_length (is_path r) (length (addresses_of r)) ≡ route_length found (length addresses)
same-length true addresses nature c r is = rw (is.path, is.addresses-are refl) refl
same-length false addresses nature c r is = rw is.path refl

module _ (id flags : ℕ) (kinds metric_flags values : List ℕ) where
  pub same-written
      : (found : Bool) (addresses : List ℕ) (nature : ℕ) (c : Bool) (r : Route) → RouteIs found addresses nature c r
      → written_pcrep (reply_of id flags (is_path r) (addresses_of r) (nature_of r) (c_of r) kinds metric_flags values)
      ≡ written_pcrep (reply_of id flags found addresses nature c kinds metric_flags values)
  unfolding written_pcrep
  same-written true addresses nature c r is = rw (is.path, is.addresses-are refl) refl
  same-written false addresses nature c r is = rw (is.path, is.nature-is refl, is.c-is refl) refl
