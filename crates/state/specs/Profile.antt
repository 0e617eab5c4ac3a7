-- A profile and its limits (document 01, "Profile, record and area"): of the record, of the octets that fresh is given, and of
-- what the host reads in a create response or an activation.
-- Assumes nothing.
use Rattle.std.specs.Prelude.{ℕ, ◌+◌, ◌≤◌, ◌≡◌, Bool, true, ◌&&◌, ◌||◌, length, get_or, eqb, leb}
use Rattle.octets.specs.Octets.{Octets, pick}
use Rattle.state.specs.Kinds.{Terms, Profile}
use Rattle.state.specs.Conn.{terms_of}

-- ---- tests

-- the least payload of a control message, at which commands are cut before an INIT response
abbrev pub least_size : ℕ
least_size = 32

-- "Payloads are 1-255."
abbrev pub payload_ok : ℕ → Bool
payload_ok n = leb 1 n && leb n 255

-- "Credits are 1-8, or 255 for no flow control."
abbrev pub credits_ok : ℕ → Bool
credits_ok n = (leb 1 n && leb n 8) || eqb n 255

abbrev pub terms_ok : Terms → Bool
terms_ok t = payload_ok t.payload && credits_ok t.credits

-- "most control payload (32-255)"
abbrev pub control_ok : ℕ → Bool
control_ok n = leb least_size n && leb n 255

abbrev pub profile_ok : Profile → Bool
profile_ok p =
    control_ok p.control && terms_ok p.two && terms_ok p.three && terms_ok p.four && terms_ok p.five && terms_ok p.fixed

-- ---- the same as facts

-- payload 1-255, credits 1-8 or 255
pub record TermsWithin (payload credits : ℕ) : Type 0 where
  pub least : 1 ≤ payload
  pub most : payload ≤ 255
  pub credits_ok_law : credits_ok credits ≡ true

pub record ProfileWithin (p : Profile) : Type 0 where
  pub control_least : least_size ≤ p.control
  pub control_most : p.control ≤ 255
  pub terms : (c : ℕ) → TermsWithin (terms_of p c).payload (terms_of p c).credits

-- ---- octets

-- "eleven octets in all, the static pair last"; "The old five-octet profile stays valid" (document 02, item 4)
abbrev pub profile_length : ℕ → Bool
profile_length n = eqb n 5 || eqb n 11

-- where terms stand: in five octets, in eleven
abbrev pub terms_place : Octets → ℕ → ℕ → ℕ
terms_place m five eleven = pick (eqb (length m) 5) five eleven

-- payload, credits
abbrev pub terms_in : Octets → ℕ → Terms
terms_in m at = record { payload = get_or m at 0; credits = get_or m (at + 1) 0 }

-- control payload; payload and credits of 2, of 3, of 4, of 5; payload and credits of 0. Five octets mean four equal pairs: theirs is one for 2 to 5
abbrev pub profile_in : Octets → Profile
profile_in m =
    record {
      control = get_or m 0 0;
      two = terms_in m (terms_place m 1 1);
      three = terms_in m (terms_place m 1 3);
      four = terms_in m (terms_place m 1 5);
      five = terms_in m (terms_place m 1 7);
      fixed = terms_in m (terms_place m 3 9);
    }

abbrev pub profile_octets_ok : Octets → Bool
profile_octets_ok m = profile_length (length m) && profile_ok (profile_in m)
