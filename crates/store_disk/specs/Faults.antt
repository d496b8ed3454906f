-- Why a commit is not made, or a copy does not go on, where the disks refuse it. For private clauses alone.
use Rattle.std.specs.Prelude.{false}
use Rattle.disk_pair.specs.declared.fault.PutFault.{PutFault}
use Rattle.disk_pair.specs.declared.fault.PutFault.TheVariants as put
use Rattle.store_core.specs.declared.words.CommitFault.{CommitFault}
use Rattle.store_core.specs.declared.words.CommitFault.TheVariants.{DiskFault, NoMemory}
use Rattle.store_core.specs.declared.words.CompactFault.{CompactFault}
use Rattle.store_core.specs.declared.words.CompactFault.TheVariants as compact

abbrev pub commit_fault : PutFault → CommitFault
commit_fault (put.DiskFault doubt) = DiskFault doubt
commit_fault put.NoMemory = NoMemory

-- a copy that is given up before its finish leaves no doubt
abbrev pub copy_fault : PutFault → CompactFault
copy_fault (put.DiskFault doubt) = compact.DiskFault false
copy_fault put.NoMemory = compact.NoMemory
