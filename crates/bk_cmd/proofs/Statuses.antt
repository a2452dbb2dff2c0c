-- The numbers of the statuses, which callers of the program rely on.
use Rattle.std.proofs.Common.{◌≡◌, refl}
use Rattle.bk_cmd.specs.declared.outcome.TheConstants.{OK, MEMORY, USAGE, MALFORMED, READ_FAULT, WRITE_FAULT}

ok_is : OK ≡ 0
ok_is = refl

memory_is : MEMORY ≡ 1
memory_is = refl

usage_is : USAGE ≡ 2
usage_is = refl

malformed_is : MALFORMED ≡ 4
malformed_is = refl

read_fault_is : READ_FAULT ≡ 6
read_fault_is = refl

write_fault_is : WRITE_FAULT ≡ 7
write_fault_is = refl
