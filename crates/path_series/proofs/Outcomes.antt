-- A run's whole outcome: nothing where the arguments are malformed, else what the calls leave, which the law `series-replies` says over every request.
use Prim.Native.Nat.{ℕ}
use mathlib.Core.Path.{◌≡◌, refl, sym, subst, ap}
use mathlib.Core.Bool.{Bool, true, false}
use mathlib.Core.List.{List, []}
use lib.ListN.{length}
use Rattle.model.specs.Request.{Request}
use Rattle.model.specs.Series.{Reply, run}
use Rattle.laws.proofs.BigEndian.{Bytes}
use Rattle.laws.proofs.Claims.{series-replies}
use Rattle.std.specs.Prelude.{Ok, Err}
use Rattle.path_series.specs.Calls.{calls_of, malformed}
use Rattle.path_series.specs.Runs.{Left, answer_if, LeftIf, RunIs}

module _ (r : Request) (kinds sizes buffers numbers : List ℕ) where
  pub nothing_run : malformed kinds sizes (length buffers) (length numbers) ≡ true → RunIs r kinds sizes buffers numbers (Err _) buffers numbers
  nothing_run e =
      record {
        told = sym (ap answer_if e);
        left = subst (λ (b : Bool). LeftIf b r kinds sizes buffers numbers buffers numbers) (sym e) (refl, refl);
      }

  pub all_run : malformed kinds sizes (length buffers) (length numbers) ≡ false → Bytes r.profile
      → (buffers' numbers' : List ℕ) → Left (run r [] (calls_of kinds sizes buffers)) numbers buffers' numbers'
      → RunIs r kinds sizes buffers numbers (Ok tt) buffers' numbers'
  all_run e bytes buffers' numbers' left =
      record {
        told = sym (ap answer_if e);
        left =
            subst (λ (b : Bool). LeftIf b r kinds sizes buffers numbers buffers' numbers') (sym e)
            (subst (λ (replies : List Reply). Left replies numbers buffers' numbers') (series-replies r bytes (calls_of kinds sizes buffers)) left);
      }
