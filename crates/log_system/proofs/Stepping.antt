-- Steps one after another, and what happens at one of several peers.
use Rattle.std.proofs.Common.{◌≡◌, List, [], ◌∷◌, ◌++◌, length, Option, Some, option_map, refl, ap, subst, ◌∙◌, slice_get, slice_set}
use Rattle.orderer.specs.Ordering.{Ordering}
use Rattle.fabric_core.specs.System.{Rules, PeerState, World, at_peer, IsStep, AreSteps}
use Rattle.fabric_core.specs.declared.event.Event.{Event}
use Rattle.fabric_core.specs.declared.event.Reply.{Reply}

pub one_step : (r : Rules) (w : World) (e : Event) (reply : Reply) (new : World) → IsStep r w e reply new → AreSteps r w (e ∷ []) (reply ∷ []) new
one_step r w e reply new step = (reply, new, [], refl, step, (refl, refl))

pub steps_joined : (r : Rules) (w mid new : World) (es fs : List Event) (rs ss : List Reply) → AreSteps r w es rs mid → AreSteps r mid fs ss new →
    AreSteps r w (es ++ fs) (rs ++ ss) new
steps_joined r w mid new [] fs rs ss a b = rw a.0 (subst (λ (u : World). AreSteps r u fs ss new) a.1 b)
steps_joined r w mid new (e ∷ es) fs rs ss a b =
    (a.0, a.1, a.2 ++ ss, ap (λ (l : List Reply). l ++ ss) a.3, a.4, steps_joined r a.1 mid new es fs a.2 ss a.5 b)

pub two_steps : (r : Rules) (w mid new : World) (e f : Event) (a b : Reply) → IsStep r w e a mid → IsStep r mid f b new →
    AreSteps r w (e ∷ f ∷ []) (a ∷ b ∷ []) new
two_steps r w mid new e f a b one two = steps_joined r w mid new (e ∷ []) (f ∷ []) (a ∷ []) (b ∷ []) (one_step r w e a mid one) (one_step r mid f b new two)

pub at_seam : {X : Type 0} (front : List X) (x : X) (back : List X) → slice_get (front ++ x ∷ back) (length front) ≡ Some x
at_seam [] x back = refl
at_seam (y ∷ front) x back = at_seam front x back

set_seam : {X : Type 0} (front : List X) (x y : X) (back : List X) → slice_set (front ++ x ∷ back) (length front) y ≡ front ++ y ∷ back
set_seam [] x y back = refl
set_seam (z ∷ front) x y back = ap (λ l. z ∷ l) (set_seam front x y back)

-- a peer among others, with an orderer, where nothing waits in the queue
abbrev pub among : Ordering → List PeerState → List PeerState → PeerState → World
among log front back p = record { peers = front ++ p ∷ back; queue = []; orderer = log }

-- what happens at the peer happens in the world
pub at_among : (log : Ordering) (front back : List PeerState) (p q : PeerState) (f : PeerState → Reply × PeerState) (reply : Reply) → f p ≡ (reply, q) →
    at_peer (among log front back p) (length front) (option_map f (slice_get (front ++ p ∷ back) (length front))) ≡ (reply, among log front back q)
at_among log front back p q f reply told =
    let w = among log front back p in
    ap (λ (o : Option PeerState). at_peer w (length front) (option_map f o)) (at_seam front p back)
    ∙ ap {B = Reply × World} (λ s. (s.0, record w { peers = slice_set (front ++ p ∷ back) (length front) s.1 })) told
    ∙ (λ i. (reply, record { peers = set_seam front p q back i; queue = []; orderer = log }))
