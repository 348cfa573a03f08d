-- What it means that a sequence is right.
use Prim.Native.Nat.{ℕ, ◌≤◌, ◌<◌}
use mathlib.Core.Path.{◌≡◌}
use mathlib.Core.List.{List, [], Memᴰ}
use lib.ListN.{length, get_or}
use Rattle.model.specs.Profile.{domain_count}
use Rattle.model.specs.Sequence.{Stop, stop_with, domains_of}
use Rattle.model.specs.Request.{Request}
use Rattle.model.specs.Path.{no_stop}

-- What is read: 1 to 16 domains of the profile, the ingress domain first and without entry constraint or EXRS, none twice.
pub record SequenceRight (r : Request) (sequence : List Stop) : Type 0 where
  pub count : (1 ≤ length sequence) × (length sequence ≤ 16)
  pub first : get_or sequence 0 no_stop ≡ stop_with r.ingress []
  pub known : (p : Stop) → Memᴰ p sequence → p.domain < domain_count r.profile
  pub once : (i j : ℕ) → i < j → j < length (domains_of sequence) → get_or (domains_of sequence) i 0 ≡ get_or (domains_of sequence) j 0 → ⊥
