-- What a port shows after more events: `made-none`, `made-one`, `made-not`, `made-more`, `made-same`.
use Rattle.std.proofs.Common.{◌≡◌, ℕ, ◌+◌, List, [], ◌∷◌, ◌++◌, Option, None, Some, Ok, Err, refl, ap, ◌∙◌, subst}
use Rattle.std.specs.Prelude.{IfSome, option_map}
use Rattle.std.proofs.lemmas.List.{append-nil}
use Rattle.keep_event.specs.Port.{IsStamped, IsWorldAfter, Stamp, event_of, told_after}
use Rattle.keep_event.specs.World.{World, asked}
use Rattle.keep_event.specs.declared.event.Event.{Event}
use Rattle.keep_event.specs.declared.event.Query.{Query}
use Rattle.keep_event.specs.declared.port.PortError.{PortError}
use Rattle.keep_event.specs.declared.port.PortError.TheVariants as F
use Rattle.keep_event.specs.declared.port.Reply.{Reply}
use Rattle.keep_api.specs.Sessions.{AreLines, AreStamped, GoesOn, Made, Seen}
use Rattle.keep_api.proofs.Options.{grown-none, grown-more}

-- ---- no event

world-none : (o : Option World) → GoesOn AreLines o [] o
world-none None = tt
world-none (Some w) = (w, (refl, refl))

stamp-none : (o : Option Stamp) → GoesOn AreStamped o [] o
stamp-none None = tt
stamp-none (Some s) = (s, (refl, refl))

pub made-none : (p : Seen) → Made p p []
made-none p = record { events_are = grown-none p.events; world_is = world-none p.world; stamp_is = stamp-none p.stamp }

-- ---- one ask

world-one : (actor : ℕ) (query : Query) (reply : Reply) (old new : Option World) → IfSome old (λ w. IsWorldAfter w new query (Ok reply)) → GoesOn AreLines old (event_of actor query reply ∷ []) new
world-one actor query reply None new h = tt
world-one actor query reply (Some w) new h = ((asked h.0 reply.reading query w).world, (h.1.1, (h.0, (h.1.0, refl))))

stamp-one : (actor : ℕ) (query : Query) (reply : Reply) (old new : Option Stamp) → IfSome old (λ s. IsStamped s new (Ok reply)) → GoesOn AreStamped old (event_of actor query reply ∷ []) new
stamp-one actor query reply None new h = tt
stamp-one actor query reply (Some s) new h = (record { tick = s.tick + 1; reading = s.reading }, (h.1.1.1, (h.0, (h.1.0, refl))))

world-not : (query : Query) (e : PortError) (old new : Option World) → IfSome old (λ w. IsWorldAfter w new query (Err e)) → GoesOn AreLines old [] new
world-not query e None new h = tt
world-not query e (Some w) new h = (w, (h, refl))

stamp-not : (e : PortError) (old new : Option Stamp) → IfSome old (λ s. IsStamped s new (Err e)) → GoesOn AreStamped old [] new
stamp-not e None new h = tt
stamp-not F.Failed (Some s) new h = (s, (h, refl))
stamp-not (F.Spent drawn) (Some s) new h = (s, (h.1, refl))
stamp-not F.NoMemory (Some s) new h = (s, (h, refl))

module _ (actor : ℕ) (query : Query) (old new : Seen) where
  -- the port replied
  pub made-one : (reply : Reply) → new.events ≡ told_after actor query old.events (Ok reply) → IfSome old.world (λ w. IsWorldAfter w new.world query (Ok reply)) → IfSome old.stamp (λ s. IsStamped s new.stamp (Ok reply)) → Made old new (event_of actor query reply ∷ [])
  made-one reply told world stamp = record {
    events_are = told;
    world_is = world-one actor query reply old.world new.world world;
    stamp_is = stamp-one actor query reply old.stamp new.stamp stamp;
  }

  -- the port refused
  pub made-not : (e : PortError) → new.events ≡ told_after actor query old.events (Err e) → IfSome old.world (λ w. IsWorldAfter w new.world query (Err e)) → IfSome old.stamp (λ s. IsStamped s new.stamp (Err e)) → Made old new []
  made-not e told world stamp = record {
    events_are = told ∙ grown-none old.events;
    world_is = world-not query e old.world new.world world;
    stamp_is = stamp-not e old.stamp new.stamp stamp;
  }

-- ---- one after another

lines-more : (u v w : World) (es fs : List Event) → AreLines u es v → AreLines v fs w → AreLines u (es ++ fs) w
lines-more u v w [] fs p q = subst (λ x. AreLines x fs w) p q
lines-more u v w (e ∷ es) fs p q = (p.0, (p.1.0, lines-more (asked p.0 e.reading e.query u).world v w es fs p.1.1 q))

stamped-more : (s t u : Stamp) (es fs : List Event) → AreStamped s es t → AreStamped t fs u → AreStamped s (es ++ fs) u
stamped-more s t u [] fs p q = subst (λ x. AreStamped x fs u) p q
stamped-more s t u (e ∷ es) fs p q = (p.0, (p.1.0, stamped-more (record { tick = s.tick + 1; reading = s.reading }) t u es fs p.1.1 q))

goes-more : {X : Type 0} (Goes : X → List Event → X → Type 0) → ((x y z : X) (es fs : List Event) → Goes x es y → Goes y fs z → Goes x (es ++ fs) z) → (a b c : Option X) (es fs : List Event) → GoesOn Goes a es b → GoesOn Goes b fs c → GoesOn Goes a (es ++ fs) c
goes-more Goes more None b c es fs p q = tt
goes-more Goes more (Some x) b c es fs p q =
    let r = subst (λ o. GoesOn Goes o fs c) p.1.0 q in
    (r.0, (r.1.0, more x p.0 r.0 es fs p.1.1 r.1.1))

pub made-more : (a b c : Seen) (es fs : List Event) → Made a b es → Made b c fs → Made a c (es ++ fs)
made-more a b c es fs p q = record {
  events_are = q.events_are ∙ ap (option_map (λ x. x ++ fs)) p.events_are ∙ grown-more a.events es fs;
  world_is = goes-more AreLines lines-more a.world b.world c.world es fs p.world_is q.world_is;
  stamp_is = goes-more AreStamped stamped-more a.stamp b.stamp c.stamp es fs p.stamp_is q.stamp_is;
}

pub made-same : (a b c : Seen) (es : List Event) → Made a b es → Made b c [] → Made a c es
made-same a b c es p q = subst (Made a c) (append-nil es) (made-more a b c es [] p q)
