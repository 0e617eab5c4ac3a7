-- Credits that pass a grant are taken modulo 256: `AllWrap` of `specs/Grants.antt`. No list of calls from a fresh bench comes there.
-- Assumes nothing.
use Prim.Native.Nat.{ℕ, ◌+◌, ◌%◌}
use mathlib.Core.Path.{◌≡◌, refl, sym, ap, ◌∙◌}
use mathlib.Core.Bool.{Bool, true, false, ◌&&◌, false≢true}
use mathlib.Core.List.{List, [], ◌∷◌}
use native.Mathlib.Omega.{arith}
use borrow.Author.Tests.{eq-eqb}
use Rattle.octets.specs.Octets.{Octets, pick}
use Rattle.packets.specs.Segments.{Segment}
use Rattle.state.specs.Conn.{flows, credit_sum}
use Rattle.wires.specs.Meaning.{Meaning, datum, meaning}
use Rattle.model.specs.State.{State, with_up}
use Rattle.model.specs.Effects.{consume, up, Result, taken, refused}
use Rattle.model.specs.Refusals.{first, is_nil, is_held}
use Rattle.model.specs.calls.Consume.{consuming}
use Rattle.model.specs.calls.Up.{coming}
use Rattle.model.specs.Bench.{rules, judged, step}
use Rattle.model.specs.Grants.{AllWrap}
use Rattle.model.proofs.Needs.{need}

module _ (s : State) where
  owed_wraps : (step (consume 0) s).answer ≡ taken → flows (s.conns 0).controller.grant ≡ true
      → ((step (consume 0) s).effect.next.conns 0).controller.owed ≡ ((s.conns 0).controller.owed + 1) % 256
  unfolding step
  owed_wraps a f = go (first (rules (consume 0) s)) refl a
    where
      counted : (w : List Octets) → is_nil w ≡ false → ((consuming 0 w s).next.conns 0).controller.owed ≡ ((s.conns 0).controller.owed + 1) % 256
      counted [] n = absurd (false≢true (sym n))
      counted (p ∷ w) n = rw f

      go : (r : Result) → first (rules (consume 0) s) ≡ r → (judged r (consume 0) s).answer ≡ taken
          → ((judged r (consume 0) s).effect.next.conns 0).controller.owed ≡ ((s.conns 0).controller.owed + 1) % 256
      go taken t e = counted (s.conns 0).controller.store (need 8 (rules (consume 0) s) t)
      go (refused n) t e = absurd (let z : ◌≡◌ {A = ℕ} 0 1 = cc in omega arith)

  held_wraps : (c n : ℕ) (x : Segment) (p : Octets) (w : List Octets) → s.up ≡ p ∷ w → meaning p ≡ datum c n x → is_held s c ≡ true → flows (s.conns c).host.grant ≡ true
      → ((step up s).effect.next.conns c).host.held ≡ ((s.conns c).host.held + n) % 256
  unfolding step first
  held_wraps c n x p w e m h f =
      ap (λ (u : List Octets). ((judged (pick (is_nil u) (refused 8) taken) up (with_up u s)).effect.next.conns c).host.held) e
      ∙ ap (λ (q : Meaning). ((coming q (with_up w s)).next.conns c).host.held) m
      ∙ rw (h, eq-eqb c c refl, f) (ap (λ (b : Bool). pick (b && true) (credit_sum (s.conns c).host.held n) (s.conns c).host.held) h)

pub all_wrap : AllWrap
all_wrap s = record { owed = owed_wraps s; held = held_wraps s }
