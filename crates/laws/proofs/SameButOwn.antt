-- What it means that two requests differ in their include lists alone, and in these in EXRS alone that take the same from their own stop.
use mathlib.Core.Path.{◌≡◌}
use mathlib.Core.List.{List, [], ◌∷◌}
use Prim.Native.Nat.{ℕ}
use lib.ListN.{get_or}
use Rattle.model.specs.declared.Round.TheVariants.{First}
use Rattle.model.specs.Profile.{domains}
use Rattle.model.specs.Subobject.{Subobject, carried}
use Rattle.model.specs.Sequence.{Stop, domain_of, domains_of}
use Rattle.model.specs.Request.{Request, search_in}
use Rattle.model.specs.Path.{no_stop}
use Rattle.model.specs.Tree.{entries_at}
use Rattle.laws.proofs.Hits.{hitting}

-- the bytes of the EXRS at a place of a sequence
abbrev pub exrs_at : List Stop → ℕ → List ℕ
exrs_at sequence i = (get_or sequence i no_stop).exrs

-- what such bytes take from the stop at a place: those of their exclusions that take its domain or one of its entry nodes
abbrev pub own_hits : Request → List Stop → ℕ → List ℕ → List Subobject
own_hits r sequence i exrs =
    hitting (domain_of (domains r.profile) (get_or sequence i no_stop).domain ∷ []) (entries_at (search_in First r sequence) i) (carried exrs)

-- two requests differ in their include lists alone: these name the same domains with the same entry constraints, and at each the EXRS of both take the same from it
pub record SameButOwn (r r' : Request) (sequence sequence' : List Stop) : Type 0 where
  pub profile : r.profile ≡ r'.profile
  pub ingress : r.ingress ≡ r'.ingress
  pub source : r.source ≡ r'.source
  pub destination : r.destination ≡ r'.destination
  pub exclude : r.exclude ≡ r'.exclude
  pub limits : r.limits ≡ r'.limits
  pub domains : domains_of sequence ≡ domains_of sequence'
  pub pins : (i : ℕ) → (get_or sequence i no_stop).pin ≡ (get_or sequence' i no_stop).pin
  pub own : (i : ℕ) → own_hits r sequence i (exrs_at sequence i) ≡ own_hits r sequence i (exrs_at sequence' i)
