-- The modules of `machine_frames`' specs.
pub mod Frames
pub mod Work
