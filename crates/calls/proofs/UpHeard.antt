-- What the host heard, on the record: each connection changes as the model's does, and the numbers keep their bounds, whatever credits come.
-- Assumes nothing.
use Prim.Native.Nat.{ℕ, ◌≤◌, ◌<◌}
use native.Mathlib.Omega.{arith}
use native.Mathlib.Decide.{dec_lt}
use mathlib.Core.Path.{◌≡◌, refl, sym, ap, ◌∙◌, subst}
use mathlib.Core.Bool.{◌&&◌, false≢true}
use mathlib.Core.List.{List}
use lib.ListN.{length}
use lib.Dec.{eqb}
use borrow.Author.Tests.{eqb-true}
use Rattle.octets.specs.Octets.{Octets, cut}
use Rattle.octets.specs.Octal.{Octal}
use Rattle.calls.specs.Kinds.{HostSide, Counts, Ends, Heard}
use Rattle.calls.specs.Kinds.answer.{Done, ClosesAll, Sized, Opens, Closes}
use Rattle.calls.specs.Kinds.heard.{Nothing, Dropped, Answered, Activated, Deactivated, Credits}
use Rattle.state.specs.Conn.{place_of, counts_of, closed_counts, flows}
use Rattle.state.proofs.Chains.{on}
use Rattle.state.proofs.Places.{dynamic_place}
use Rattle.state.proofs.Conns.{past_five}
use Rattle.state.proofs.Limits.{credits_small}
use Rattle.dh.specs.Host.{credits_for, host_after, conns_heard}
use Rattle.dh.proofs.Limits.{SizeFits, TermsFit, HeardFits, size_after_law}
use Rattle.ends.specs.Changes.{Change, stays, opens, closes, gives, change_heard, changed_host, counts_at_host}
use Rattle.ends.specs.Steps.{ends_heard}
use Rattle.ends.proofs.Changes.{counts_heard, length_heard}
use Rattle.record.specs.Writing.{host_octets}
use Rattle.record.specs.Fit.{Each, FitCounts, FitEnds}
use Rattle.record.specs.Small.{SmallCounts, SmallEnds}
use Rattle.record.proofs.Conns.{conns_by}
use Rattle.record.proofs.Hosts.{host_size_law, settled_octal}
use Rattle.views.specs.View.{hand_of, run_of, host_of, connection_of, speech_of, conns_of}
use Rattle.model.specs.Connection as connection
use Rattle.model.specs.Changes.{at_host}

-- ---- one connection

changed_view : (p : ℕ) (a : Octets) (x : Change) (h : HostSide) → host_of p a (changed_host x h) ≡ at_host x (host_of p a h)
unfolding hand_of run_of cut
changed_view p a stays h = refl
changed_view p a (opens t) h = refl
changed_view p a closes h = refl
changed_view p a (gives n) h = refl

-- a change after which a connection has its bounds: the terms that it opens with are within their limits
abbrev pub ChangeFits : Change → Type 0
ChangeFits stays = Unit {0}
ChangeFits (opens t) = TermsFit t
ChangeFits closes = Unit {0}
ChangeFits (gives n) = Unit {0}

changed_fits : (x : Change) (k : Counts) → ChangeFits x → FitCounts k → FitCounts (counts_at_host x k)
changed_fits stays k w f = f
changed_fits (opens t) k w f =
    record {
      payload = λ _. w.least;
      hand = record { len = omega arith; at = omega arith };
      host_run_law = omega arith;
      store = f.store;
      controller_run_law = f.controller_run_law;
    }
changed_fits closes k w f =
    record {
      payload = λ e. absurd (false≢true e);
      hand = record { len = omega arith; at = omega arith };
      host_run_law = omega arith;
      store = f.store;
      controller_run_law = f.controller_run_law;
    }
changed_fits (gives n) k w f = record { payload = f.payload; hand = f.hand; host_run_law = f.host_run_law; store = f.store; controller_run_law = f.controller_run_law }

pub changed_small : (x : Change) (k : Counts) → ChangeFits x → SmallCounts k → SmallCounts (counts_at_host x k)
changed_small stays k w s = s
changed_small (opens t) k w s =
    let c = credits_small t.credits w.credits_ok_law in
    record { payload = w.most; host_grant_law = c; held = c; grant = s.grant; owed = s.owed }
changed_small closes k w s = record { payload = omega arith; host_grant_law = omega arith; held = omega arith; grant = s.grant; owed = s.owed }
changed_small (gives n) k w s =
    record {
      payload = s.payload;
      host_grant_law = s.host_grant_law;
      held = on (λ (m : ℕ). m ≤ 255) (k.host.opened && flows k.host.grant) (λ _. omega arith) (λ _. s.held);
      grant = s.grant;
      owed = s.owed;
    }

-- ---- all of them

module _ (e : Ends) (five : length e.conns ≡ 5) (m : Octets) (x : Heard) (fits : HeardFits m x) where
  abbrev heard_conns : List Counts
  heard_conns = conns_heard e.conns m x

  -- nothing opens a connection that there is not
  none_changed : (d : ℕ) → (place_of d < 5 → ⊥) → counts_at_host (change_heard x m d) closed_counts ≡ closed_counts
  unfolding place_of
  none_changed d past = go x fits
    where
      stays_closed : Change → Type 0
      stays_closed y = counts_at_host y closed_counts ≡ closed_counts

      go : (y : Heard) → HeardFits m y → counts_at_host (change_heard y m d) closed_counts ≡ closed_counts
      go Nothing f = refl
      go Dropped f = refl
      go (Answered Done) f = refl
      go (Answered ClosesAll) f = refl
      go (Answered (Sized n)) f = refl
      go (Answered (Opens c t)) f =
          on stays_closed (eqb c d)
          (λ q. absurd (past (subst (λ (k : ℕ). place_of k < 5) (eqb-true c d q) (dynamic_place c f.least f.most))))
          (λ _. refl)
      go (Answered (Closes c)) f = on stays_closed (eqb c d) (λ _. refl) (λ _. refl)
      go (Activated t) f = on stays_closed (eqb 0 d) (λ q. absurd (past (subst (λ (k : ℕ). place_of k < 5) (eqb-true 0 d q) (omega arith)))) (λ _. refl)
      go Deactivated f = on stays_closed (eqb 0 d) (λ _. refl) (λ _. refl)
      go Credits f = on stays_closed (eqb (credits_for m d) 0) (λ _. refl) (λ _. refl)

  module _ (small : Each SmallCounts e.conns) where
    -- by any ID
    counts_all : (d : ℕ) → counts_of heard_conns d ≡ counts_at_host (change_heard x m d) (counts_of e.conns d)
    counts_all d = go (dec_lt (place_of d) 5)
      where
        go : Dec (place_of d < 5) → counts_of heard_conns d ≡ counts_at_host (change_heard x m d) (counts_of e.conns d)
        go (yes h) = counts_heard e.conns d five h m x (small (place_of d) h).held
        go (no h) =
            past_five heard_conns (place_of d) (length_heard e.conns m x ∙ five) h
            ∙ sym (none_changed d h)
            ∙ sym (ap (counts_at_host (change_heard x m d)) (past_five e.conns (place_of d) five h))

    -- the model's connections
    pub heard_conns_law : (a : Octets)
        → conns_of a e.endpoint heard_conns
        ≡ (λ d. connection.with_host (at_host (change_heard x m d) (conns_of a e.endpoint e.conns d).host) (conns_of a e.endpoint e.conns d))
    heard_conns_law a i d =
        ((λ j. connection_of (place_of d) a (counts_all d j) (speech_of a e.endpoint d))
        ∙ (λ j.
        record {
          host = changed_view (place_of d) a (change_heard x m d) (counts_of e.conns d).host j;
          controller = (conns_of a e.endpoint e.conns d).controller;
        })) i

    -- ---- limits

    change_fits : (d : ℕ) → ChangeFits (change_heard x m d)
    change_fits d = go x fits
      where
        go : (y : Heard) → HeardFits m y → ChangeFits (change_heard y m d)
        go Nothing f = tt
        go Dropped f = tt
        go (Answered Done) f = tt
        go (Answered ClosesAll) f = tt
        go (Answered (Sized n)) f = tt
        go (Answered (Opens c t)) f = on ChangeFits (eqb c d) (λ _. f.terms) (λ _. tt)
        go (Answered (Closes c)) f = on ChangeFits (eqb c d) (λ _. tt) (λ _. tt)
        go (Activated t) f = on ChangeFits (eqb 0 d) (λ _. f) (λ _. tt)
        go Deactivated f = on ChangeFits (eqb 0 d) (λ _. tt) (λ _. tt)
        go Credits f = on ChangeFits (eqb (credits_for m d) 0) (λ _. tt) (λ _. tt)

    pub heard_fits : Each FitCounts e.conns → Each FitCounts heard_conns
    heard_fits f =
        conns_by FitCounts e.conns heard_conns
        (λ d h k. subst FitCounts (sym (counts_all d)) (changed_fits (change_heard x m d) (counts_of e.conns d) (change_fits d) k)) f

    pub heard_small : Each SmallCounts heard_conns
    heard_small =
        conns_by SmallCounts e.conns heard_conns
        (λ d h k. subst SmallCounts (sym (counts_all d)) (changed_small (change_heard x m d) (counts_of e.conns d) (change_fits d) k)) small

  -- ---- the host's own numbers

  host_octal : SizeFits (host_after e.host x).size → Octal (host_octets e.host) → Octal (host_octets (host_after e.host x))
  unfolding host_after
  host_octal s o = go x s
    where
      go : (y : Heard) → SizeFits (host_after e.host y).size → Octal (host_octets (host_after e.host y))
      go Nothing z = o
      go Dropped z = o
      go (Answered Done) z = settled_octal e.host.size z.most
      go (Answered ClosesAll) z = settled_octal 32 z.most
      go (Answered (Sized n)) z = settled_octal n z.most
      go (Answered (Opens c t)) z = settled_octal e.host.size z.most
      go (Answered (Closes c)) z = settled_octal e.host.size z.most
      go (Activated t) z = o
      go Deactivated z = o
      go Credits z = o

  module _ (f : FitEnds e) (s : SmallEnds e) where
    size : SizeFits (host_after e.host x).size
    size = size_after_law m x e.host fits (record { least = f.size; most = host_size_law e.host s.host })

    pub heard_own : FitEnds (ends_heard e m x)
    heard_own =
        record {
          profile = f.profile;
          size = size.least;
          hearing = f.hearing;
          controller = f.controller;
          asking = f.asking;
          endpoint = f.endpoint;
        }

    pub heard_octal : SmallEnds (ends_heard e m x)
    heard_octal =
        record {
          profile = s.profile;
          host = host_octal size s.host;
          hearing = s.hearing;
          controller = s.controller;
          asking = s.asking;
        }
