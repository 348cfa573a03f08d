-- The checks of a request in turn, with those of a message's METRICs among them: what a METRIC out of range makes of the whole. By putting each verdict in its place.
use mathlib.Core.Path.{◌≡◌, refl}
use Rattle.std.specs.Prelude.{Err}
use Rattle.model.specs.declared.Refusal.{Refusal}
use Rattle.model.specs.Verdict.{Verdict, Pass}
use Rattle.model.specs.Profile.{profile_verdict}
use Rattle.model.specs.Request.{Request, layout_for, ingress_verdict, limits_verdict, request_verdict_with}

module _ (q : Request) (metrics ero : Verdict) where
  module _ (p : profile_verdict (layout_for q) q.profile ≡ Pass) (i : ingress_verdict q.profile q.ingress ≡ Pass) (l : limits_verdict q.limits ≡ Pass) where
    pub metrics-refused : (r : Refusal) → metrics ≡ Err r → request_verdict_with metrics ero q ≡ Err r
    metrics-refused r m = rw (p, i, l, m) refl
