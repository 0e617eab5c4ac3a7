-- The laws of `specs/Profile.antt`: from a test on a profile to its bounds, and back.
-- Assumes nothing.
use Prim.Native.Nat.{ℕ, ◌≤◌}
use native.Mathlib.Omega.{arith}
use mathlib.Core.Path.{◌≡◌, refl, sym}
use mathlib.Core.Bool.{Bool, true, false, ◌&&◌, ◌||◌, false≢true}
use mathlib.Core.List.{List, [], ◌∷◌}
use lib.ListN.{length}
use lib.Dec.{eqb, leb}
use borrow.Author.Tests.{leb-true, le-leb, eqb-true, eqb-false, ne_eqb}
use Rattle.octets.specs.Octets.{Octets}
use Rattle.state.specs.Kinds.{Terms, Profile}
use Rattle.state.specs.Conn.{terms_of}
use Rattle.state.specs.Profile.{least_size, payload_ok, credits_ok, terms_ok, control_ok, profile_ok, profile_length, profile_in, profile_octets_ok, TermsWithin, ProfileWithin}
use Rattle.state.proofs.Chains.{and_left, and_right, every_at, on}

-- ---- a test that an octet passes by its type

-- the code leaves it out
pub and_octet : (a : Bool) (n : ℕ) → n ≤ 255 → (a && leb n 255) ≡ a
and_octet true n h = le-leb n 255 h
and_octet false n h = refl

-- ---- credits

pub credits_some : (n : ℕ) → credits_ok n ≡ true → 1 ≤ n
credits_some n h = go (leb 1 n) refl (leb n 8) (eqb n 255) refl h
  where
    go : (a : Bool) → leb 1 n ≡ a → (b c : Bool) → eqb n 255 ≡ c → ((a && b) || c) ≡ true → 1 ≤ n
    go true e b c f h = leb-true 1 n e
    go false e b true f h = let z : n ≡ 255 = eqb-true n 255 f in omega arith
    go false e b false f h = absurd (false≢true h)

pub credits_few : (n : ℕ) → credits_ok n ≡ true → (n ≡ 255 → ⊥) → n ≤ 8
credits_few n h ne = go (leb 1 n) (leb n 8) refl (eqb n 255) (ne_eqb n 255 ne) h
  where
    go : (a b : Bool) → leb n 8 ≡ b → (c : Bool) → c ≡ false → ((a && b) || c) ≡ true → n ≤ 8
    go a true e c f h = leb-true n 8 e
    go true false e true f h = absurd (false≢true (sym f))
    go true false e false f h = absurd (false≢true h)
    go false false e true f h = absurd (false≢true (sym f))
    go false false e false f h = absurd (false≢true h)

-- either way they are an octet
pub credits_small : (n : ℕ) → credits_ok n ≡ true → n ≤ 255
credits_small n h = go (eqb n 255) refl
  where
    go : (b : Bool) → eqb n 255 ≡ b → n ≤ 255
    go true e = let z : n ≡ 255 = eqb-true n 255 e in omega arith
    go false e = let z : n ≤ 8 = credits_few n h (eqb-false n 255 e) in omega arith

pub credits_ok_law : (n : ℕ) → 1 ≤ n → ((n ≡ 255 → ⊥) → n ≤ 8) → credits_ok n ≡ true
credits_ok_law n h f = go (eqb n 255) refl
  where
    or_true : (a : Bool) → (a || true) ≡ true
    or_true true = refl
    or_true false = refl

    go : (c : Bool) → eqb n 255 ≡ c → ((leb 1 n && leb n 8) || c) ≡ true
    go true e = or_true (leb 1 n && leb n 8)
    go false e = rw (le-leb 1 n h, le-leb n 8 (f (eqb-false n 255 e)))

-- ---- terms and profiles

pub terms_within : (t : Terms) → terms_ok t ≡ true → TermsWithin t.payload t.credits
terms_within t h =
    let n = t.payload in
    let p = and_left (payload_ok n) (credits_ok t.credits) h in
    record {
      least = leb-true 1 n (and_left (leb 1 n) (leb n 255) p);
      most = leb-true n 255 (and_right (leb 1 n) (leb n 255) p);
      credits_ok_law = and_right (payload_ok n) (credits_ok t.credits) h;
    }

pub within_terms : (t : Terms) → TermsWithin t.payload t.credits → terms_ok t ≡ true
within_terms t f = rw (le-leb 1 t.payload f.least, le-leb t.payload 255 f.most, f.credits_ok_law)

pub profile_within : (p : Profile) → profile_ok p ≡ true → ProfileWithin p
unfolding terms_of
profile_within p h =
    let n = p.control in
    let pairs : List Bool = terms_ok p.two ∷ terms_ok p.three ∷ terms_ok p.four ∷ terms_ok p.five ∷ terms_ok p.fixed ∷ [] in
    let tests = every_at (control_ok n) pairs h in
    let Bounded : Terms → Type 0 = λ t. TermsWithin t.payload t.credits in
    record {
      control_least = leb-true least_size n (and_left (leb least_size n) (leb n 255) (tests 0));
      control_most = leb-true n 255 (and_right (leb least_size n) (leb n 255) (tests 0));
      terms =
          λ c. on Bounded (eqb c 0) (λ _. terms_within p.fixed (tests 5))
          (λ _. on Bounded (eqb c 2) (λ _. terms_within p.two (tests 1))
          (λ _. on Bounded (eqb c 3) (λ _. terms_within p.three (tests 2))
          (λ _. on Bounded (eqb c 4) (λ _. terms_within p.four (tests 3)) (λ _. terms_within p.five (tests 4)))));
    }

pub within_profile : (p : Profile) → ProfileWithin p → profile_ok p ≡ true
unfolding terms_of
within_profile p f =
    rw (
      le-leb least_size p.control f.control_least,
      le-leb p.control 255 f.control_most,
      within_terms p.two (f.terms 2),
      within_terms p.three (f.terms 3),
      within_terms p.four (f.terms 4),
      within_terms p.five (f.terms 5),
      within_terms p.fixed (f.terms 0),
    )

-- that of a profile which `fresh` takes
pub profile_limits : (m : Octets) → profile_octets_ok m ≡ true → ProfileWithin (profile_in m)
profile_limits m h = profile_within (profile_in m) (and_right (profile_length (length m)) (profile_ok (profile_in m)) h)
