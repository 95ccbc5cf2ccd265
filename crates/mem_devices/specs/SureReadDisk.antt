-- What contracts see of a disk in memory whose reads never fail.
use Rattle.ports.specs.Disk.{DiskState}
use Rattle.mem_devices.specs.declared.disk.MemDisk.{MemDisk}
use Rattle.mem_devices.specs.declared.sure_disk.SureReadDisk.{SureReadDisk}
use Rattle.mem_devices.specs.MemDisk.{disk_state}

abbrev pub inner_disk : SureReadDisk → MemDisk
inner_disk sure = sure.disk

abbrev pub sure_state : SureReadDisk → DiskState
sure_state sure = disk_state sure.disk
