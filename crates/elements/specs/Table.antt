-- 000, "Guest State Buffer", and 01, the same: the elements that a buffer can hold, and what the table says of an ID.
use Rattle.std.specs.Prelude.{ℕ, suc, ◌+◌, ◌-◌, ◌*◌, min, Bool, true, false, cond, ◌&&◌, List, [], ◌∷◌, ltb, leb, eqb}
use Rattle.elements.specs.declared.Access.{Access}
use Rattle.elements.specs.declared.Access.TheVariants.{Read, Write, ReadWrite}
use Rattle.elements.specs.declared.Scope.{Scope}
use Rattle.elements.specs.declared.Scope.TheVariants.{Guest, Thread}
use Rattle.elements.specs.declared.Row.{Row}
use Rattle.elements.specs.declared.Source.{Source}
use Rattle.elements.specs.declared.Source.TheVariants.{Fixed, Stored}
use Rattle.elements.specs.declared.Kind.{Kind}
use Rattle.elements.specs.declared.Kind.TheVariants.{Unlisted, Nop, Listed}
use Rattle.elements.specs.declared.Element.{Element}

-- 000's columns: access R, W or RW, scope G or T
abbrev pub R : Access
R = Read

abbrev pub W : Access
W = Write

abbrev pub RW : Access
RW = ReadWrite

abbrev pub G : Scope
G = Guest

abbrev pub T : Scope
T = Thread

-- first ID, last ID, size, access, scope
abbrev pub row : ℕ → ℕ → ℕ → Access → Scope → Row
row f l n a s = record { first = f; last = l; size = n; access = a; scope = s }

-- 000, the table under "Guest State Buffer", row for row; its reserved rows are left out, and so is the NOP, which has no size.
unfoldable pub table : List Row
table =
    -- Size of L0 vCPU state
    row 0x0001 0x0001 0x08 R G
    -- Size Run vCPU out buffer
    ∷ row 0x0002 0x0002 0x08 R G
    -- Logical PVR
    ∷ row 0x0003 0x0003 0x04 RW G
    -- TB Offset (L1 relative)
    ∷ row 0x0004 0x0004 0x08 RW G
    -- Partition scoped page tbl info
    ∷ row 0x0005 0x0005 0x18 RW G
    -- Process Table Information
    ∷ row 0x0006 0x0006 0x10 RW G
    -- Run vCPU Input Buffer
    ∷ row 0x0C00 0x0C00 0x10 RW T
    -- Run vCPU Output Buffer
    ∷ row 0x0C01 0x0C01 0x10 RW T
    -- vCPU VPA Address
    ∷ row 0x0C02 0x0C02 0x08 RW T
    -- GPR 0-31
    ∷ row 0x1000 0x101F 0x08 RW T
    -- HDEC expiry TB (the source's column holds a T: RW, house)
    ∷ row 0x1020 0x1020 0x08 RW T
    -- NIA
    ∷ row 0x1021 0x1021 0x08 RW T
    -- MSR
    ∷ row 0x1022 0x1022 0x08 RW T
    -- LR
    ∷ row 0x1023 0x1023 0x08 RW T
    -- XER
    ∷ row 0x1024 0x1024 0x08 RW T
    -- CTR
    ∷ row 0x1025 0x1025 0x08 RW T
    -- CFAR
    ∷ row 0x1026 0x1026 0x08 RW T
    -- SRR0
    ∷ row 0x1027 0x1027 0x08 RW T
    -- SRR1
    ∷ row 0x1028 0x1028 0x08 RW T
    -- DAR
    ∷ row 0x1029 0x1029 0x08 RW T
    -- DEC expiry TB
    ∷ row 0x102A 0x102A 0x08 RW T
    -- VTB
    ∷ row 0x102B 0x102B 0x08 RW T
    -- LPCR
    ∷ row 0x102C 0x102C 0x08 RW T
    -- HFSCR
    ∷ row 0x102D 0x102D 0x08 RW T
    -- FSCR
    ∷ row 0x102E 0x102E 0x08 RW T
    -- FPSCR
    ∷ row 0x102F 0x102F 0x08 RW T
    -- DAWR0
    ∷ row 0x1030 0x1030 0x08 RW T
    -- DAWR1
    ∷ row 0x1031 0x1031 0x08 RW T
    -- CIABR
    ∷ row 0x1032 0x1032 0x08 RW T
    -- PURR
    ∷ row 0x1033 0x1033 0x08 RW T
    -- SPURR
    ∷ row 0x1034 0x1034 0x08 RW T
    -- IC
    ∷ row 0x1035 0x1035 0x08 RW T
    -- SPRG 0-3
    ∷ row 0x1036 0x1039 0x08 RW T
    -- PPR
    ∷ row 0x103A 0x103A 0x08 W T
    -- MMCR 0-3
    ∷ row 0x103B 0x103E 0x08 RW T
    -- MMCRA
    ∷ row 0x103F 0x103F 0x08 RW T
    -- SIER
    ∷ row 0x1040 0x1040 0x08 RW T
    -- SIER 2
    ∷ row 0x1041 0x1041 0x08 RW T
    -- SIER 3
    ∷ row 0x1042 0x1042 0x08 RW T
    -- BESCR
    ∷ row 0x1043 0x1043 0x08 RW T
    -- EBBHR
    ∷ row 0x1044 0x1044 0x08 RW T
    -- EBBRR
    ∷ row 0x1045 0x1045 0x08 RW T
    -- AMR
    ∷ row 0x1046 0x1046 0x08 RW T
    -- IAMR
    ∷ row 0x1047 0x1047 0x08 RW T
    -- AMOR
    ∷ row 0x1048 0x1048 0x08 RW T
    -- UAMOR
    ∷ row 0x1049 0x1049 0x08 RW T
    -- SDAR
    ∷ row 0x104A 0x104A 0x08 RW T
    -- SIAR
    ∷ row 0x104B 0x104B 0x08 RW T
    -- DSCR
    ∷ row 0x104C 0x104C 0x08 RW T
    -- TAR
    ∷ row 0x104D 0x104D 0x08 RW T
    -- DEXCR
    ∷ row 0x104E 0x104E 0x08 RW T
    -- HDEXCR
    ∷ row 0x104F 0x104F 0x08 RW T
    -- HASHKEYR
    ∷ row 0x1050 0x1050 0x08 RW T
    -- HASHPKEYR
    ∷ row 0x1051 0x1051 0x08 RW T
    -- CTRL
    ∷ row 0x1052 0x1052 0x08 RW T
    -- DPDES
    ∷ row 0x1053 0x1053 0x08 RW T
    -- CR
    ∷ row 0x2000 0x2000 0x04 RW T
    -- PIDR
    ∷ row 0x2001 0x2001 0x04 RW T
    -- DSISR
    ∷ row 0x2002 0x2002 0x04 RW T
    -- VSCR
    ∷ row 0x2003 0x2003 0x04 RW T
    -- VRSAVE
    ∷ row 0x2004 0x2004 0x04 RW T
    -- DAWRX0
    ∷ row 0x2005 0x2005 0x04 RW T
    -- DAWRX1
    ∷ row 0x2006 0x2006 0x04 RW T
    -- PMC 1-6
    ∷ row 0x2007 0x200C 0x04 RW T
    -- WORT
    ∷ row 0x200D 0x200D 0x04 RW T
    -- PSPB
    ∷ row 0x200E 0x200E 0x04 RW T
    -- VSR 0-63
    ∷ row 0x3000 0x303F 0x10 RW T
    -- HDAR
    ∷ row 0xF000 0xF000 0x08 R T
    -- HDSISR
    ∷ row 0xF001 0xF001 0x04 R T
    -- HEIR
    ∷ row 0xF002 0xF002 0x04 R T
    -- ASDR
    ∷ row 0xF003 0xF003 0x08 R T
    ∷ []

-- how many IDs a row names, and whether an ID is one of them
abbrev pub many : Row → ℕ
many r = suc r.last - r.first

abbrev pub names : Row → ℕ → Bool
names r id = leb r.first id && leb id r.last

-- the total, over the elements with an ID below the given one, of what an element of a row weighs
unfoldable pub below : (Row → ℕ) → List Row → ℕ → ℕ
below weight [] id = 0
below weight (r ∷ rs) id = weight r * min (id - r.first) (many r) + below weight rs id

abbrev pub same_scope : Scope → Scope → Bool
same_scope Guest Guest = true
same_scope Guest Thread = false
same_scope Thread Guest = false
same_scope Thread Thread = true

-- 01, "The guest state buffer": "0x0001 always reads 1,820 and 0x0002 reads 124"; the values of these two are not stored. 02, L1: "0x0001 now
-- reads 1,844".
abbrev pub is_stored : ℕ → Bool
is_stored id = ltb 0x0002 id

-- 01, "The store": a guest's 52 bytes and a slot's 1,820 hold the stored elements of their scope "in order of ID without gaps".
abbrev pub bytes_in : Scope → Row → ℕ
bytes_in s r = cond (same_scope s r.scope && is_stored r.first) r.size 0

unfoldable pub position : Scope → ℕ → ℕ
position s id = below (bytes_in s) table id

unfoldable pub source_of : Scope → ℕ → Source
source_of s id = cond (eqb id 0x0001) (Fixed 1844) (cond (eqb id 0x0002) (Fixed 124) (Stored (position s id)))

-- the row that names an ID decides
unfoldable pub find : List Row → ℕ → Kind
find [] id = Unlisted
find (r ∷ rs) id =
    cond (names r id)
    (Listed (record { size = r.size; access = r.access; scope = r.scope; source = source_of r.scope id }))
    (find rs id)

-- 01, "The guest state buffer": "ID 0x0000 is the NOP"
unfoldable pub kind_of : ℕ → Kind
kind_of id = cond (eqb id 0x0000) Nop (find table id)

-- 01, "The L1 cache": "Thread element e (0 to 169 in order of ID)"; the number of an ID, and the element of a number
abbrev pub threads : Row → ℕ
threads r = cond (same_scope Thread r.scope) 1 0

unfoldable pub number_of : ℕ → ℕ
number_of id = below threads table id

unfoldable pub numbered : List Row → ℕ → Element
numbered [] e = record { id = 0; size = 0; position = 0 }
numbered (r ∷ rs) e =
    cond (ltb e (threads r * many r))
    (record { id = r.first + e; size = r.size; position = position Thread (r.first + e) })
    (numbered rs (e - threads r * many r))

unfoldable pub thread_element : ℕ → Element
thread_element e = numbered table e
