mod Devices
mod Stores
