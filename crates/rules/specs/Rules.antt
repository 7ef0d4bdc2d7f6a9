-- 01, "The guest state buffer": what a call may do with an element.
use Rattle.std.specs.Prelude.{ℕ, ◌+◌, ◌-◌, ◌/◌, ◌%◌, ◌^◌, Bool, true, false, cond, not, ◌&&◌, ◌||◌, List, leb, eqb}
use Rattle.octets.specs.Bytes.{be}
use Rattle.elements.specs.declared.Access.{Access}
use Rattle.elements.specs.declared.Access.TheVariants.{Read, Write, ReadWrite}
use Rattle.elements.specs.declared.Scope.{Scope}
use Rattle.elements.specs.declared.Scope.TheVariants.{Guest, Thread}
use Rattle.elements.specs.declared.Entry.{Entry}
use Rattle.elements.specs.declared.Kind.{Kind}
use Rattle.elements.specs.declared.Kind.TheVariants.{Unlisted, Nop, Listed}
use Rattle.rules.specs.declared.Usage.{Usage}
use Rattle.rules.specs.declared.Usage.TheVariants.{GuestGet, GuestSet, ThreadGet, ThreadSet, RunInput, Effect}
use Rattle.rules.specs.declared.Context.{Context}
use Rattle.elements.specs.Table.{same_scope}
use Rattle.elements.specs.Later.{offers}

-- from low to high, both included
abbrev pub between : ℕ → ℕ → ℕ → Bool
between low high n = leb low n && leb n high

-- "Get needs R or RW, set needs W or RW."
abbrev pub readable : Access → Bool
readable Read = true
readable Write = false
readable ReadWrite = true

abbrev pub writable : Access → Bool
writable Read = false
writable Write = true
writable ReadWrite = true

-- "6 if unlisted, of the wrong scope": the scope that a use is about
abbrev pub scope_for : Usage → Scope
scope_for GuestGet = Guest
scope_for GuestSet = Guest
scope_for ThreadGet = Thread
scope_for ThreadSet = Thread
scope_for RunInput = Thread
scope_for Effect = Thread

-- "A run input takes what a thread set takes, except 0x0C00 and 0x0C01, answered 6 (house). An effect takes the NOP and any listed
-- thread element of the right size except 0x0C00 to 0x0C02."
unfoldable pub allows : Usage → ℕ → Entry → Bool
allows GuestGet id x = same_scope Guest x.scope && readable x.access
allows GuestSet id x = same_scope Guest x.scope && writable x.access
allows ThreadGet id x = same_scope Thread x.scope && readable x.access
allows ThreadSet id x = same_scope Thread x.scope && writable x.access
allows RunInput id x = (same_scope Thread x.scope && writable x.access) && not (between 0x0C00 0x0C01 id)
allows Effect id x = same_scope Thread x.scope && not (between 0x0C00 0x0C02 id)

-- "ID 0x0000 is the NOP: either scope, any size"; an unlisted ID is permitted nowhere. 02, L7: "It applies to thread get, set, run input and
-- effect"; the elements of a guest are on both lists.
unfoldable pub permits : Context → ℕ → Kind → Bool
permits k id Unlisted = false
permits k id Nop = true
permits k id (Listed x) = allows k.usage id x && offers k.offer id

-- "then the size, 7 if not the listed one"; a NOP has any
unfoldable pub size_fits : Kind → ℕ → Bool
size_fits Unlisted n = false
size_fits Nop n = true
size_fits (Listed x) n = eqb n x.size

-- "the second eight bytes of 0x0C00 are 4 to 65,536; of 0x0C01, 124 to 65,536"
abbrev pub good_input : ℕ → Bool
good_input n = between 4 65536 n

abbrev pub good_output : ℕ → Bool
good_output n = between 124 65536 n

-- 01, "Answers": "bit 0 is the most significant of 64"
abbrev pub agreed : ℕ → ℕ → Bool
agreed capabilities b = eqb (capabilities / 2 ^ (63 - b) % 2) 1

-- "0x0003 is 0x0F000005 with capability bit 1 agreed, or 0x0F000006 with bit 2."
unfoldable pub good_pvr : ℕ → ℕ → Bool
good_pvr capabilities v = (eqb v 0x0F000005 && agreed capabilities 1) || (eqb v 0x0F000006 && agreed capabilities 2)

-- "Value rules (house)", of the value that starts at `at`: "Any other value of any element is good."
unfoldable pub rule_of : ℕ → ℕ → List ℕ → ℕ → Bool
rule_of capabilities id b at =
    cond (eqb id 0x0003) (good_pvr capabilities (be b at 4))
    (cond (eqb id 0x0C00) (good_input (be b (at + 8) 8))
    (cond (eqb id 0x0C01) (good_output (be b (at + 8) 8)) true))

-- "when setting, the value rule": get has none
abbrev pub is_setting : Usage → Bool
is_setting GuestGet = false
is_setting GuestSet = true
is_setting ThreadGet = false
is_setting ThreadSet = true
is_setting RunInput = true
is_setting Effect = true

unfoldable pub good_value : Context → ℕ → List ℕ → ℕ → Bool
good_value k id b at = not (is_setting k.usage) || rule_of k.capabilities id b at
