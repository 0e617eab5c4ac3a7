-- A response and the notification after it are octets, where what the verdict carries and the profile's own are.
-- Assumes nothing.
use Prim.Native.Nat.{ℕ, ◌≤◌}
use native.Mathlib.Omega.{arith}
use mathlib.Core.Path.{◌≡◌, refl}
use mathlib.Core.List.{[], ◌∷◌}
use lib.ListN.{length}
use Rattle.std.specs.Prelude.{Ok, Err}
use Rattle.octets.specs.Octets.{Octets}
use Rattle.octets.specs.Octal.{Octal, octal_nil, octal_cons}
use Rattle.state.specs.Judgement.{Judgement}
use Rattle.state.specs.declared.kinds.Profile.{Profile}
use Rattle.state.specs.declared.verdict.Verdict.TheVariants.{Resets, Initialises, Opens, Closes, Turns, Selects, Deactivates, SetsConfig, GetsConfig}
use Rattle.state.proofs.SmallVerdicts.{SmallVerdict}
use Rattle.state.specs.Runs.{control_limit}
use Rattle.config.specs.Table.{config_size}
use Rattle.config.specs.Commands.{count_in, param_at}
use Rattle.config.proofs.Lists.{set_octal, get_octal}
use Rattle.messages.specs.Layout.{response_of, notice_message}

-- one octet that is a number of the standard
low : (n : ℕ) {l : Octets} → n ≤ 255 → Octal l → Octal (n ∷ l)
low n h t = octal_cons h t

ok : Octal (0 ∷ [])
ok = low 0 (omega arith) octal_nil

zeros : {l : Octets} → Octal l → Octal (0 ∷ 0 ∷ 0 ∷ 0 ∷ l)
zeros t = low 0 (omega arith) (low 0 (omega arith) (low 0 (omega arith) (low 0 (omega arith) t)))

-- the list of a set is whole
pub response_octal : (p : Profile) (b m : Octets) (v : Judgement) → length b ≡ config_size → Octal b → Octal m
    → (v ≡ Ok SetsConfig → param_at m (count_in m) ≤ control_limit) → p.control ≤ 255 → SmallVerdict v → Octal (response_of p b m v)
unfolding response_of
response_octal p b m (Err status) l ob om w h s = octal_cons s octal_nil
response_octal p b m (Ok (Resets type)) l ob om w h s = ok
response_octal p b m (Ok Initialises) l ob om w h s =
    zeros (low 0 (omega arith) (low 4 (omega arith) (low 0 (omega arith) (low 0 (omega arith)
    (low p.control h (zeros (low 1 (omega arith) (low 1 (omega arith) ok))))))))
response_octal p b m (Ok (Opens c t)) l ob om w h s = low 0 (omega arith) (octal_cons s.1.payload (octal_cons s.1.credits (octal_cons s.0 octal_nil)))
response_octal p b m (Ok (Closes c)) l ob om w h s = ok
response_octal p b m (Ok (Turns rf)) l ob om w h s = ok
response_octal p b m (Ok (Selects pair)) l ob om w h s = ok
response_octal p b m (Ok (Deactivates type rf)) l ob om w h s = ok
response_octal p b m (Ok SetsConfig) l ob om w h s = set_octal om (w refl)
response_octal p b m (Ok GetsConfig) l ob om w h s = get_octal l ob om

pub notice_octal : (v : Judgement) → SmallVerdict v → Octal (notice_message v).payload
unfolding notice_message
notice_octal (Err status) s = octal_nil
notice_octal (Ok (Resets type)) s = low 2 (omega arith) (octal_cons s (low 0x20 (omega arith) (low 0 (omega arith) ok)))
notice_octal (Ok Initialises) s = octal_nil
notice_octal (Ok (Opens c t)) s = octal_nil
notice_octal (Ok (Closes c)) s = octal_nil
notice_octal (Ok (Turns rf)) s = octal_nil
notice_octal (Ok (Selects pair)) s = octal_nil
notice_octal (Ok (Deactivates type rf)) s = octal_cons s.0 ok
notice_octal (Ok SetsConfig) s = octal_nil
notice_octal (Ok GetsConfig) s = octal_nil
