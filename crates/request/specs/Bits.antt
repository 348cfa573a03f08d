-- What is asked, given by numbers and by bits, as the C interface has it: the definitions of `model`, under the name that this crate's contracts and its callers use.
use Rattle.std.specs.Prelude.{ℕ, Bool}
use Rattle.model.specs.Request.{limits_of_bits}
use Rattle.request.specs.declared.Asked.{Asked}
pub use Rattle.model.specs.Floats.{float_of_bits}
pub use Rattle.model.specs.Request.{limits_of_bits}

abbrev pub asked_of_bits : ℕ → ℕ → ℕ → ℕ → Bool → ℕ → Asked
asked_of_bits ingress source destination bandwidth counts bound =
    record {
      ingress = record { 0 = ingress };
      source = record { 0 = source };
      destination = record { 0 = destination };
      limits = limits_of_bits bandwidth counts bound;
    }
